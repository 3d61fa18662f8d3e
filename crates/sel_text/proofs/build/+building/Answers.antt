use Rattle.std.proofs.Common.{Ok, ◌≡◌, ◌<◌, map, length, replicate, true, false, append-nil, refl, sym, ap, subst, ◌∙◌, arith}
use Rattle.sel_text.proofs.Common.{or_from, or_left, or_right, flat_map, list_all, take_all, max_rows, shape_of, of_null, of_fixed_size_list, of_struct, shapes_of, Null, HasParts, fits, rows_repeated, any_exceeds_limit, block_in, exceeds_limit, ReportsLimit, MakesColumn}
use Rattle.sel_arrow.proofs.Types.{struct_shape}
use Rattle.sel_text.proofs.Below.{blocks_fit, blocks_many, blocks_null, blocks_wide, lists_fit}
use Rattle.sel_text.proofs.Making.{maker_told, told_more}
use Rattle.sel_text.proofs.PartRows.{parts_kept, parts_more, past_at, tuples_made, tuples_past}
use Rattle.sel_text.proofs.Within.{fields_within, rows_few}
use Rattle.sel_text.proofs.build.+building.Goals as goal

-- ---- nulls and structs

pub build_column-returns-in-Null : goal.build_column-returns-in-Null
build_column-returns-in-Null t c =
    subst (λ s. list_all (fits s) (rows_repeated c.args.items.now) ≡ true → MakesColumn c.args.beneath s (rows_repeated c.args.items.now) c.nulls.result) (sym (ap shape_of c.in-Null.is)) (c.nulls.ensures c.args.beneath)

pub build_column-returns-in-Struct : goal.build_column-returns-in-Struct
build_column-returns-in-Struct t c =
    let same = ap (λ l. of_struct (shapes_of (map shape_of l))) c.deref-in-Struct.ensures.value ∙ sym (struct_shape c.args.dtype.now c.in-Struct.fields c.in-Struct.is) in
    subst (λ s. list_all (fits s) (rows_repeated c.args.items.now) ≡ true → MakesColumn c.args.beneath s (rows_repeated c.args.items.now) c.tuples.result) same c.tuples.ensures

-- ---- lists

pub list_child-returns-in-Ok-build_column : goal.list_child-returns-in-Ok-build_column
list_child-returns-in-Ok-build_column t c =
    let s = shape_of c.args.dtype.now in
    let read = ap rows_repeated c.deref.ensures.value ∙ c.in-Ok.ensures.entries c.requires in
    record {
      child = λ fit. subst (λ l. MakesColumn c.args.beneath s l (Ok c.in-Ok-build_column.child)) read (c.in-Ok-build_column.ensures (lists_fit c.args.beneath s (rows_repeated c.args.items.now) _ read fit));
      offsets = c.in-Ok.ensures.offsets c.requires;
    }

pub list_child-returns : goal.list_child-returns
list_child-returns t c =
    let s = shape_of c.args.dtype.now in
    let read = ap rows_repeated c.deref.ensures.value ∙ c.in-Ok.ensures.entries c.requires in
    record {
      child = λ fit. subst (λ l. ReportsLimit (exceeds_limit c.args.beneath s l) c.in-Err-build_column.fault) read (c.in-Err-build_column.ensures (lists_fit c.args.beneath s (rows_repeated c.args.items.now) _ read fit));
      offsets = tt;
    }

pub lists-returns-in-Ok-list_child : goal.lists-returns-in-Ok-list_child
lists-returns-in-Ok-list_child t c = λ fit.
    let made = c.in-Ok-list_child.ensures in
    c.list_column.ensures c.args.beneath (shape_of c.args.dtype.now) (rows_repeated c.args.items.now) fit made.offsets (made.child fit) c.in-Ok.ensures.covers c.in-Ok.ensures.hides

pub lists-returns-in-Err-list_child : goal.lists-returns-in-Err-list_child
lists-returns-in-Err-list_child t c = λ fit. told_more _ _ _ (or_right _ _) (c.in-Err-list_child.ensures.child fit)

-- ---- fixed-size lists

pub block_child-returns-in-None : goal.block_child-returns-in-None
block_child-returns-in-None t c = λ fit. blocks_wide c.args.beneath _ c.args.size c.in-Ok.len _ fit c.in-Ok.ensures.count c.in-None.ensures

pub block_child-returns-then-count-gt-MOST_ROWS : goal.block_child-returns-then-count-gt-MOST_ROWS
block_child-returns-then-count-gt-MOST_ROWS t c = λ fit.
    blocks_many c.args.beneath _ c.args.size c.in-Ok.len _ fit c.in-Ok.ensures.count (subst (λ n. max_rows < n) c.in-Some.ensures.1 c.if-count-gt-MOST_ROWS.true)

pub block_child-returns-in-Null : goal.block_child-returns-in-Null
block_child-returns-in-Null t c = λ fit.
    let vs = rows_repeated c.args.items.now in
    let shape : shape_of c.args.dtype.now ≡ of_null = ap shape_of c.in-Null.is in
    let nulls = blocks_null c.args.size c.in-Ok.len vs (subst (λ s. list_all (fits (of_fixed_size_list s c.args.size)) vs ≡ true) shape fit) c.in-Ok.ensures.count in
    let are = c.into_ref.ensures.rows ∙ ap (λ n. replicate n Null) (c.in_ok-try_new.ensures.length ∙ c.in-Some.ensures.1) ∙ nulls in
    (c.into_ref.ensures.dtype ∙ sym shape, are, ap (λ s. exceeds_limit c.args.beneath s (flat_map (block_in c.args.size) vs)) shape ∙ rows_few c.into_ref.result _ are)

pub block_child-returns : goal.block_child-returns
block_child-returns t c = λ fit.
    let read = ap rows_repeated c.deref.ensures.value ∙ c.in-Ok-entries_of.ensures.entries c.requires in
    subst (λ l. MakesColumn c.args.beneath (shape_of c.args.dtype.now) l c.build_column.result) read (c.build_column.ensures (blocks_fit _ c.args.size (rows_repeated c.args.items.now) _ read fit))

pub blocks-returns-in-Ok : goal.blocks-returns-in-Ok
blocks-returns-in-Ok t c = λ fit. c.block_column.ensures c.args.beneath (shape_of c.args.dtype.now) fit (c.in-Ok.ensures fit)

pub blocks-returns-in-Err : goal.blocks-returns-in-Err
blocks-returns-in-Err t c = λ fit. told_more _ _ _ (or_right _ _) (c.in-Err.ensures fit)

-- ---- fields of structs

pub push_fields-returns-in-Err-build_column-clause-limit : goal.push_fields-returns-in-Err-build_column-clause-limit
push_fields-returns-in-Err-build_column-clause-limit t c = λ fit.
    let dtypes = c.args.dtypes.now in
    let k = c.loop-k.k in
    let d = c.index-dtypes-k.result in
    let below : k < length dtypes = omega arith in
    let read = ap rows_repeated c.deref.ensures.value ∙ c.in-Ok.ensures.parts c.requires in
    let told = c.in-Err-build_column.ensures (ap (list_all (fits (shape_of d))) read ∙ parts_kept dtypes k d below c.index-dtypes-k.is (rows_repeated c.args.items.now) fit) in
    told_more _ _ c.in-Err-build_column.fault (past_at c.args.beneath dtypes 0 k k d _ below c.index-dtypes-k.is (omega arith))
    (subst (λ l. ReportsLimit (exceeds_limit c.args.beneath (shape_of d) l) c.in-Err-build_column.fault) read told)

pub push_fields-loop-k-init : goal.push_fields-loop-k-init
push_fields-loop-k-init t c = λ fit. (record { types = sym (append-nil _); parts = sym (append-nil _) }, refl)

pub push_fields-returns : goal.push_fields-returns
push_fields-returns t c =
    let all = ap (map shape_of) (take_all c.loop-k.k c.args.dtypes.now (omega arith)) in
    let vs = rows_repeated c.args.items.now in
    record {
      fields = λ fit. subst (λ shapes. HasParts c.loop-k.fields.items c.args.fields.now.items shapes vs) all (c.loop-k.invariant fit).0;
      within = λ fit. subst (λ shapes. any_exceeds_limit c.args.beneath (shapes_of shapes) 0 vs ≡ false) all (c.loop-k.invariant fit).1;
      limit = λ fit. tt;
    }

pub push_fields-loop-k-preserved : goal.push_fields-loop-k-preserved
push_fields-loop-k-preserved t c = λ fit.
    let dtypes = c.args.dtypes.now in
    let k = c.loop-k.k in
    let d = c.index-dtypes-k.result in
    let below : k < length dtypes = omega arith in
    let read = ap rows_repeated c.deref.ensures.value ∙ c.in-Ok.ensures.parts c.requires in
    let made = c.in-Ok-build_column.ensures (ap (list_all (fits (shape_of d))) read ∙ parts_kept dtypes k d below c.index-dtypes-k.is (rows_repeated c.args.items.now) fit) in
    let so = c.loop-k.invariant fit in (
      parts_more c.push.new.self.items c.loop-k.fields.items c.args.fields.now.items c.in-Ok-build_column.field dtypes d k _ so.0 below c.index-dtypes-k.is c.in-Ok-push.ensures.items made.0 (made.1 ∙ read),
      fields_within c.args.beneath dtypes d k _ below c.index-dtypes-k.is so.1 (ap (exceeds_limit c.args.beneath (shape_of d)) (sym read) ∙ made.2),
    )

pub tuples-returns-in-Ok-try_new : goal.tuples-returns-in-Ok-try_new
tuples-returns-in-Ok-try_new t c = λ fit.
    let made = c.in-Ok-try_new.ensures in
    let whole = tuples_made (map shape_of c.args.dtypes.now) _ c.push_fields.new.fields.items _ c.in-Ok-try_new.array c.in-Ok.made.1 fit (c.in_default.ensures.fields fit) c.in_ok-fields.ensures.items
    (made.len ∙ c.in-Ok.ensures.count) made.fields made.validity c.in-Ok.ensures.hides in
    let are = c.into_ref.ensures.rows ∙ whole.1 in
    (c.into_ref.ensures.dtype ∙ whole.0, are, or_from _ _ (rows_few c.into_ref.result _ are) (c.in_default.ensures.within fit))

pub tuples-returns-in-Err-try_new : goal.tuples-returns-in-Err-try_new
tuples-returns-in-Err-try_new t c = λ fit.
    let shapes = map shape_of c.args.dtypes.now in
    let p = exceeds_limit c.args.beneath (of_struct (shapes_of shapes)) (rows_repeated c.args.items.now) in
    subst (ReportsLimit p) (sym c.from.ensures) (maker_told _ c.in-Err-try_new.fault p c.in-Err-try_new.ensures.refused
    (λ m is. or_left _ _ (tuples_past shapes _ c.push_fields.new.fields.items _ c.in-Ok.made.0 c.in-Ok.made.1 m (c.in_default.ensures.fields fit) c.in_ok-fields.ensures.items c.in-Ok.ensures.count c.in-Ok.ensures.covers is)))
