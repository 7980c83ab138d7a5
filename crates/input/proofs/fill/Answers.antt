-- What the next read gave stands behind what was read before.
use Rattle.std.proofs.Common.{◌≡◌, ℕ, ◌+◌, ◌-◌, ◌≤◌, List, ◌++◌, take, drop, ap, sym, ◌∙◌, subst, arith}
use Rattle.std.specs.Io.KnownBytes.{Consumes}
use Rattle.std.proofs.KnownBytes.{Consumes-trans}
use Rattle.std.proofs.Math.Seq.{take-add}
use Rattle.input.proofs.fill.Goals as goal

further : (count more : ℕ) (old new : List ℕ) → count ≤ more → take count new ≡ take count old
    → take count old ++ take (more - count) (drop count new) ≡ take more new
further count more old new h front =
    let same : count + (more - count) ≡ more = omega arith in
    ap (λ l. l ++ take (more - count) (drop count new)) (sym front) ∙ sym (take-add count (more - count) new) ∙ ap (λ n. take n new) same

pub loop-reader-preserved : goal.loop-reader-preserved
loop-reader-preserved g c =
    let read = c.read_once-input.ensures in
    record {
      within = omega (arith, read.onward.within, read.buf_len_unchanged);
      bytes = subst (Consumes _ _) (further _ _ c.loop-reader.buf c.read_once-input.new.buf read.onward.least read.front) (Consumes-trans _ _ _ _ _ c.loop-reader.invariant.bytes read.bytes);
      end = read.end (omega (arith, c.loop-reader.invariant.within));
    }
