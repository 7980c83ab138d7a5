-- Each turn of the loop writes the record of one link more behind the others, where that link is a buffer.
use Rattle.std.proofs.Common.{arith, sym, ◌∙◌}
use Rattle.results.proofs.consistent.Buffers.{buffers_none, buffers_on, buffers_off}
use Rattle.results.proofs.timings.Timings.write_buffers.Goals as goal
use Rattle.results.proofs.timings.Timings.write_buffers.Goals.{then-is_buffer, else-is_buffer}

pub loop-k-init : goal.loop-k-init
loop-k-init c = buffers_none

pub loop-k-preserved : goal.loop-k-preserved
loop-k-preserved c = elim c.if-is_buffer.branch [
  | then-is_buffer w ↦
      rw (w.answer-is, w.at-is)
      (buffers_on c.loop-k.invariant (omega arith) c.requires c.link-link.ensures.whole (sym c.is_buffer.ensures ∙ w.if-is_buffer.true) w.size_of-size.ensures w.write_buffer-at.ensures)
  | else-is_buffer w ↦ rw (w.answer-is, w.at-is) (buffers_off c.loop-k.invariant (omega arith) c.link-link.ensures.whole (sym c.is_buffer.ensures ∙ w.if-is_buffer.false))
]
