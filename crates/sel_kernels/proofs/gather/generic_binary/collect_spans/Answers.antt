use Rattle.sel_kernels.proofs.Common.{◌≡◌, ◌∷◌, ◌∙◌, ℕ, List, length, ap, sym, subst, arith, IsRising, Covers, primitive_rows, rows_between, last_offset, ends_from, joined_bytes, offsets_of, take_rows}
use Rattle.sel_arrow.specs.Pieces.{byte_rows}
use Rattle.sel_gather.proofs.JoinedRows.{rising-ends, ends_shown, built_rows, built_ends}
use Rattle.sel_kernels.specs.Spans.{plain_rows}
use Rattle.sel_kernels.proofs.TakenSpans.{column_rows, count}
use Rattle.sel_kernels.proofs.gather.generic_binary.collect_spans.Goals as goal

pub of_rising-requires : goal.of_rising-requires
of_rising-requires g c =
    let rows = take_rows (plain_rows c.args.values.now) (primitive_rows c.args.indices) in
    offsets_of g.O.NativeType.number c.in_ok-ends.ends.items (0 ∷ ends_from 0 rows) c.in_ok-ends.ensures.ends (rising-ends rows)

pub invariant_of-result : goal.invariant_of-result
invariant_of-result g c =
    let values = c.args.values.now in
    let indices = c.args.indices in
    let rows = take_rows (plain_rows values) (primitive_rows indices) in
    let ends : c.in_ok-offsets.offsets ≡ 0 ∷ ends_from 0 rows = ends_shown g.O.NativeType.number c.in_ok-ends.ends.items c.in_ok-offsets.offsets rows c.in_ok-ends.ensures.ends c.in_ok-offsets.ensures.value in
    let bytes : c.in_ok-values.values ≡ joined_bytes rows = c.in_ok-values.ensures.items ∙ c.in_ok-ends.ensures.bytes in
    let between : rows_between c.in_ok-offsets.offsets ≡ length indices.values = ap rows_between ends ∙ built_rows rows ∙ count values.offsets values.values indices.values indices.validity indices.validity_fits c.requires in
    record {
      rising = subst IsRising (sym ends) (rising-ends rows);
      rows_fit = omega (arith, between, indices.rows_fit);
      values_fit = omega (arith, ap last_offset ends, ap (λ (l : List ℕ). length l) bytes, built_ends rows);
      bytes_fit = omega (arith, ap (λ (l : List ℕ). length l) c.in_ok-values.ensures.items, c.in_ok-ends.ensures.few);
      validity_fits = subst (λ n. Covers indices.validity n) (sym between) indices.validity_fits;
    }

pub returns-clause-rows : goal.returns-clause-rows
returns-clause-rows g c =
    let values = c.args.values.now in
    let indices = c.args.indices in
    let rows = take_rows (plain_rows values) (primitive_rows indices) in
    let ends : c.in_ok-offsets.offsets ≡ 0 ∷ ends_from 0 rows = ends_shown g.O.NativeType.number c.in_ok-ends.ends.items c.in_ok-offsets.offsets rows c.in_ok-ends.ensures.ends c.in_ok-offsets.ensures.value in
    let bytes : c.in_ok-values.values ≡ joined_bytes rows = c.in_ok-values.ensures.items ∙ c.in_ok-ends.ensures.bytes in
    (λ i. byte_rows (ends i) (bytes i) indices.validity) ∙ column_rows values.offsets values.values indices.values indices.validity indices.validity_fits c.requires
