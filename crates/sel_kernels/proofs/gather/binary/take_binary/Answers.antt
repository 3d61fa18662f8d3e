use Rattle.sel_kernels.proofs.Common.{◌≡◌, ◌≤ℤ◌, pos, ap, sym, subst, ◌∙◌, IfOk, primitive_rows, rows_between, bytes_needed, ExceedsBytes, IsLimitOrMemory}
use Rattle.sel_kernels.proofs.Common.{take_rows, [], length-pieces, pieces}
use Rattle.std.specs.Result.{IfErr}
use Rattle.sel_arrow.{specs.Columns.binary_rows, specs.Value.Bytes, proofs.ByteRows.length-byte_rows}
use Rattle.sel_kernels.{specs.Spans.plain_rows, proofs.Takes.within_as, proofs.TakenSpans.live_taken, proofs.TakenStructs.live_within}
use Rattle.sel_kernels.proofs.gather.binary.take_binary.Goals as goal

pub collect_spans-requires : goal.collect_spans-requires
collect_spans-requires g c =
    let values = c.args.values.now in
    let indices = primitive_rows c.args.indices.now in
    let within = within_as _ (rows_between values.offsets) indices (length-byte_rows values.offsets values.values values.validity) c.requires in
    rw c.in_ok-live.ensures.rows (live_within (rows_between values.offsets) values.validity indices within)

pub returns : goal.returns
returns g c =
    let values = c.args.values.now in
    let indices = primitive_rows c.args.indices.now in
    let greatest = g.O.NativeType.number g.O.NativeType.GREATEST in
    let count = length-pieces values.offsets values.values in
    let within = within_as _ _ indices (length-byte_rows values.offsets values.values values.validity ∙ sym count) c.requires in
    let taken : take_rows (plain_rows values) (primitive_rows c.in_ok-live.live) ≡ take_rows (binary_rows values) indices =
    ap (take_rows (plain_rows values)) c.in_ok-live.ensures.rows
    ∙ live_taken Bytes values.validity (pieces values.offsets values.values) [] indices (λ v there. values.validity_fits v there ∙ sym count) within in
    record {
      rows = subst (λ rows. IfOk c.collect_spans.result (λ column. binary_rows column ≡ rows)) taken c.collect_spans.ensures.rows;
      fits = subst (λ rows. IfOk c.collect_spans.result (λ _. pos (bytes_needed rows) ≤ℤ greatest)) taken c.collect_spans.ensures.fits;
      refusal = subst (λ rows. IfErr c.collect_spans.result (IsLimitOrMemory (ExceedsBytes greatest rows))) taken c.collect_spans.ensures.refusal;
    }
