use Rattle.std.proofs.Common.{◌∙◌}
use Rattle.sel_bits.specs.Storage.{shared_bytes}
use Rattle.sel_bits.proofs.Loads.{read_word}
use Rattle.sel_bits.proofs.bitmap.Bitmap.whole_word_at.Goals as goal

pub returns : goal.returns
returns c =
    let inside = c.self.inside in
    let read = rw c.as_slice.ensures at c.whole_word.ensures in
    rw (← c.self.view_is) (read ∙ read_word (shared_bytes inside.bytes) inside.offset inside.len c.args.at 64 (rw (← c.self.view_is) at c.requires))
