use Rattle.sel_kernels.proofs.Common.{◌≡◌, ℕ, List, Bool, ◌∙◌, ◌*◌, ◌/◌, ◌<◌, None, length, map, refl, ap, sym, arith, rules, length-map, mul-le, first_chunks, count_true}
use Rattle.sel_kernels.proofs.Common.{blocks, rows, row_count, Value, Number, length-rows, select, masked, length-number_rows}
use Rattle.std.{specs.Mem.type_size, proofs.Math.Nat.mul-div_cancel}
use Rattle.sel_kernels.proofs.KeptColumns.{few_kept_values, joined, kept_blocks, length-kept}
use Rattle.sel_kernels.proofs.filter.fixed_size_list.filter_sized.Goals as goal

pub as_chunks-requires : goal.as_chunks-requires
as_chunks-requires g c =
    let small = mul-le g.row.N (type_size g.row.T) 64 16 c.requires.small c.requires.sized in
    (omega (arith, small), c.requires.some)

pub filter_arrays-requires : goal.filter_arrays-requires
filter_arrays-requires g c =
    let small = mul-le g.row.N (type_size g.row.T) 64 16 c.requires.small c.requires.sized in
    let numbers = c.args.numbers.now in
    let fills = ap (λ (l : List g.row.T.Denot). length l) c.as_slice.ensures ∙ sym (length-number_rows g.T.NativeType.number numbers.values numbers.validity) ∙ c.requires.fills in
    (omega (arith, small), (c.as_chunks.ensures.front_len ∙ ap (λ n. n / g.row.N) fills ∙ mul-div_cancel (length c.args.mask.now.bits) c.requires.some, c.requires.small))

kept_is : {A : Type 0} (w : ℕ) (xs kept values : List A) (chunks : List (List A)) (ms : List Bool) → 0 < w → length xs ≡ length ms * w → chunks ≡ first_chunks w (length xs / w) xs →
    kept ≡ joined (select chunks ms) → values ≡ kept → values ≡ joined (select (first_chunks w (length ms) xs) ms)
kept_is w xs kept values chunks ms some fills front is same =
    let count = ap (λ n. n / w) fills ∙ mul-div_cancel (length ms) some in
    same ∙ is ∙ ap (λ l. joined (select l ms)) (front ∙ ap (λ n. first_chunks w n xs) count)

pub into_column-requires-clause-few : goal.into_column-requires-clause-few
into_column-requires-clause-few g c =
    let f : g.row.T.Denot → Value = λ x. Number (g.T.NativeType.number x) in
    let ms = c.args.mask.now.bits in
    let numbers = c.args.numbers.now in
    let long = length-number_rows g.T.NativeType.number numbers.values numbers.validity in
    let fills = sym long ∙ c.requires.fills in
    let is = kept_is g.row.N numbers.values c.in_ok-kept.kept.items c.in_ok-values.values c.as_chunks.result.0.now ms c.requires.some fills (rw c.as_slice.ensures at c.as_chunks.ensures.front) c.in_ok-kept.ensures.items c.in_ok-values.ensures.items in
    omega (arith, few_kept_values f g.row.N (length ms) numbers.values c.in_ok-values.values ms fills refl is, long, c.requires.few)

pub returns : goal.returns
returns g c =
    let f : g.row.T.Denot → Value = λ x. Number (g.T.NativeType.number x) in
    let ms = c.args.mask.now.bits in
    let numbers = c.args.numbers.now in
    let made = c.into_column.ensures in
    let fills = sym (length-number_rows g.T.NativeType.number numbers.values numbers.validity) ∙ c.requires.fills in
    let is = kept_is g.row.N numbers.values c.in_ok-kept.kept.items c.in_ok-values.values c.as_chunks.result.0.now ms c.requires.some fills (rw c.as_slice.ensures at c.as_chunks.ensures.front) c.in_ok-kept.ensures.items c.in_ok-values.ensures.items in
    let bare : numbers.validity ≡ None = search rules in
    record {
      blocks = λ x there.
          let same : c.into_column.result ≡ x = cc there in
          ap (λ column. blocks g.row.N (count_true ms) (rows column)) (sym same) ∙ ap (blocks g.row.N (count_true ms)) made.rows
          ∙ kept_blocks f g.row.N (length ms) numbers.values c.in_ok-values.values ms fills refl is
          ∙ ap (λ v. select (blocks g.row.N (length ms) (masked v (map f numbers.values))) ms) (sym bare);
      count = λ x there.
          let same : c.into_column.result ≡ x = cc there in
          ap row_count (sym same) ∙ sym (length-rows c.into_column.result) ∙ ap length made.rows ∙ length-map c.in_ok-values.values f
          ∙ length-kept f g.row.N (length ms) numbers.values c.in_ok-values.values ms fills refl is;
      dtype = search rules;
      formed = search rules;
      refusal = search rules;
    }
