use Rattle.sel_kernels.proofs.{Common.refl, Common.utf8view_rows, Common.primitive_rows, Common.Null, Takes.passed_taken}
use Rattle.sel_arrow.specs.Texts.{is_text}
use Rattle.sel_kernels.proofs.gather.binview.take_texts.Goals as goal

pub invariant_of-result : goal.invariant_of-result
invariant_of-result c = record {
  texts = rw c.in_ok-bytes.ensures.rows (passed_taken is_text (utf8view_rows c.args.values.now) Null (primitive_rows c.args.indices.now) c.args.values.now.texts refl);
}
