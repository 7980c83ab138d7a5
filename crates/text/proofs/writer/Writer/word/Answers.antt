-- The word stands behind what was written.
use mathlib.Core.Path.{refl, ap, ◌∙◌}
use lib.ListN.{length}
use lib.Seq.{length-sets}
use Rattle.text.proofs.writer.Copying.{copied}
use Rattle.text.proofs.writer.Writer.word.Goals as goal

pub returns : goal.returns
returns c =
    let e = copied _ _ _ c.requires.fits c.copy_from_slice.ensures.after in
    record { contents = e; counted = refl; same_length = ap length e ∙ length-sets c.args.self.now.text.now c.args.self.now.at c.args.word.now; same_text = refl }
