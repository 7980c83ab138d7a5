-- An edge from k on is tight, so one is found before the last is passed.
use native.Mathlib.Omega.{arith}
use Rattle.rounds.proofs.Chunks.{parts}
use Rattle.rounds.proofs.back.Ahead.{ahead_range, ahead_found, ahead_other, ahead_loose}
use Rattle.rounds.proofs.back.tight.Goals as goal
use Rattle.rounds.proofs.back.tight.Goals.{else-to-p-via-then-to-p+else-rows-below, else-to-p-via-else-to-p}

pub overflow_add-below : goal.overflow_add-below
overflow_add-below c = let f = ahead_range c.requires (parts c.loop-k.k c.as_chunks.ensures.front (omega arith)) in omega arith

pub offset_bounds-rows-below-then-to-p : goal.offset_bounds-rows-below-then-to-p
offset_bounds-rows-below-then-to-p c = let f = ahead_range c.requires (parts c.loop-k.k c.as_chunks.ensures.front (omega arith)) in omega arith

pub bounds-rows-below-then-to-p : goal.bounds-rows-below-then-to-p
bounds-rows-below-then-to-p c = let f = ahead_range c.requires (parts c.loop-k.k c.as_chunks.ensures.front (omega arith)) in omega arith

pub overflow_add-rows : goal.overflow_add-rows
overflow_add-rows c = let f = ahead_range c.requires (parts c.loop-k.k c.as_chunks.ensures.front (omega arith)) in omega arith

pub overflow_add-start-then-to-p : goal.overflow_add-start-then-to-p
overflow_add-start-then-to-p c = let f = ahead_range c.requires (parts c.loop-k.k c.as_chunks.ensures.front (omega arith)) in omega arith

pub returns-then-rows-below : goal.returns-then-rows-below
returns-then-rows-below c = ahead_found (parts c.loop-k.k c.as_chunks.ensures.front (omega arith)) c.if-to-p.true c.if-rows-below.true

pub loop-k-preserved : goal.loop-k-preserved
loop-k-preserved c =
    let e = parts c.loop-k.k c.as_chunks.ensures.front (omega arith) in
    elim c.else-to-p.branch [
      | else-to-p-via-then-to-p+else-rows-below w ↦ ahead_loose c.loop-k.invariant e w.if-rows-below.false
      | else-to-p-via-else-to-p w ↦ ahead_other c.loop-k.invariant e w.if-to-p.false
    ]
