use Rattle.sel_kernels.proofs.Common.{◌∙◌, pos, refl, ap, sym, length, map, arith, length-map, primitive_rows, utf8view_rows, number_rows, is_valid}
use Rattle.sel_kernels.proofs.Common.{view_value, length-number_rows, take_rows, select, count_by, is_null}
use Rattle.sel_arrow.proofs.Rows.{length-masked}
use Rattle.sel_kernels.proofs.Dictionaries.{keys_taken, keys_stay, told_validity, counts_long, none_null}
use Rattle.sel_kernels.proofs.propagate_dictionary.propagate_dictionary_value_nulls.Goals as goal

pub ranks_of-requires : goal.ranks_of-requires
ranks_of-requires c =
    omega (arith, (ap length (told_validity (view_value c.args.values.now.bytes.buffers) (λ x. refl) c.args.values.now.bytes.validity c.in-Some.validity.now c.args.values.now.bytes.views c.in-Some.ensures.some c.args.values.now.bytes.validity_fits) ∙ length-map (utf8view_rows c.args.values.now) is_valid), c.args.values.now.bytes.rows_fit, length-map c.args.values.now.bytes.views (view_value c.args.values.now.bytes.buffers), length-masked c.args.values.now.bytes.validity (map (view_value c.args.values.now.bytes.buffers) c.args.values.now.bytes.views))

pub take_primitive_unchecked-requires : goal.take_primitive_unchecked-requires
take_primitive_unchecked-requires c =
    let ranks = c.in_ok-ranks-in-Some.ranks in
    let long = length-number_rows pos ranks.values ranks.validity ∙ counts_long ranks.values c.in-Some.validity.now.bits c.in_ok-ranks-in-Some.ensures.values ∙ (ap length (told_validity (view_value c.args.values.now.bytes.buffers) (λ x. refl) c.args.values.now.bytes.validity c.in-Some.validity.now c.args.values.now.bytes.views c.in-Some.ensures.some c.args.values.now.bytes.validity_fits) ∙ length-map (utf8view_rows c.args.values.now) is_valid) in
    rw long c.requires

pub filter_texts-requires-clause-long : goal.filter_texts-requires-clause-long
filter_texts-requires-clause-long c = sym (ap length (told_validity (view_value c.args.values.now.bytes.buffers) (λ x. refl) c.args.values.now.bytes.validity c.in-Some.validity.now c.args.values.now.bytes.views c.in-Some.ensures.some c.args.values.now.bytes.validity_fits) ∙ length-map (utf8view_rows c.args.values.now) is_valid)

pub returns-in_ok-values-in-None-clause-keys : goal.returns-in_ok-values-in-None-clause-keys
returns-in_ok-values-in-None-clause-keys c =
    let keys = c.args.keys.now in
    c.in_ok-keys-in-None.ensures.rows ∙ keys_stay (utf8view_rows c.args.values.now) keys.values keys.validity c.in-None.ensures.none c.requires

pub returns-in_ok-values-in-Some-clause-keys : goal.returns-in_ok-values-in-Some-clause-keys
returns-in_ok-values-in-Some-clause-keys c =
    c.in_ok-keys-in-Some.ensures.rows
    ∙ ap (λ v. take_rows (number_rows pos c.in_ok-ranks-in-Some.ranks.values v) (primitive_rows c.args.keys.now)) c.in_ok-ranks-in-Some.ensures.validity
    ∙ keys_taken (utf8view_rows c.args.values.now) c.in_ok-ranks-in-Some.ranks.values c.in-Some.validity.now (told_validity (view_value c.args.values.now.bytes.buffers) (λ x. refl) c.args.values.now.bytes.validity c.in-Some.validity.now c.args.values.now.bytes.views c.in-Some.ensures.some c.args.values.now.bytes.validity_fits) c.in_ok-ranks-in-Some.ensures.values (primitive_rows c.args.keys.now) c.requires

pub returns-in_ok-values-in-Some-clause-values : goal.returns-in_ok-values-in-Some-clause-values
returns-in_ok-values-in-Some-clause-values c =
    c.without_validity-in-Some.ensures.rows ∙ c.in_ok-values-in-Some.ensures.rows ∙ ap (select (utf8view_rows c.args.values.now)) (told_validity (view_value c.args.values.now.bytes.buffers) (λ x. refl) c.args.values.now.bytes.validity c.in-Some.validity.now c.args.values.now.bytes.views c.in-Some.ensures.some c.args.values.now.bytes.validity_fits)

pub returns-in_ok-values-in-Some-clause-same : goal.returns-in_ok-values-in-Some-clause-same
returns-in_ok-values-in-Some-clause-same c none =
    let keys = c.args.keys.now in
    c.in_ok-keys-in-Some.ensures.rows
    ∙ ap (λ v. take_rows (number_rows pos c.in_ok-ranks-in-Some.ranks.values v) (primitive_rows c.args.keys.now)) c.in_ok-ranks-in-Some.ensures.validity
    ∙ keys_taken (utf8view_rows c.args.values.now) c.in_ok-ranks-in-Some.ranks.values c.in-Some.validity.now (told_validity (view_value c.args.values.now.bytes.buffers) (λ x. refl) c.args.values.now.bytes.validity c.in-Some.validity.now c.args.values.now.bytes.views c.in-Some.ensures.some c.args.values.now.bytes.validity_fits) c.in_ok-ranks-in-Some.ensures.values (primitive_rows c.args.keys.now) c.requires
    ∙ sym (keys_stay (utf8view_rows c.args.values.now) keys.values keys.validity none c.requires)

pub without_validity-requires-in-Some : goal.without_validity-requires-in-Some
without_validity-requires-in-Some c =
    ap (count_by is_null) (c.in_ok-values-in-Some.ensures.rows ∙ ap (select (utf8view_rows c.args.values.now)) (told_validity (view_value c.args.values.now.bytes.buffers) (λ x. refl) c.args.values.now.bytes.validity c.in-Some.validity.now c.args.values.now.bytes.views c.in-Some.ensures.some c.args.values.now.bytes.validity_fits)) ∙ none_null (utf8view_rows c.args.values.now)
