use Rattle.std.proofs.Common.{sym}
use Rattle.sel_arrow.proofs.Common.{binary_rows, of_large_binary}
use Rattle.sel_arrow.proofs.NullCounts.{nulls_none}
use Rattle.sel_arrow.proofs.binary.BinaryArray.null_count.Goals as goal

pub returns-in-None : goal.returns-in-None
returns-in-None g c = sym (nulls_none of_large_binary (binary_rows c.args.self.now) c.in-None.ensures (λ same. cc))
