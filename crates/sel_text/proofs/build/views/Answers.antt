use Rattle.std.proofs.Common.{◌≡◌, ◌+◌, [], ◌∷◌, ap, sym, subst, refl, ◌∙◌, length, map, arith, IsTrue, take_all}
use Rattle.sel_text.proofs.Common.{IsFault, binview_fault, masked, Bytes, all_placed, view_rows, rows_read, exceeds_max, exceeds_limit, bytes_behind, all_items}
use Rattle.sel_text.proofs.BuiltViews.{Views, bytes_within, past_bytes, views_count, views_more}
use Rattle.sel_text.proofs.{Making.told_more, Making.told_wanting, RowRuns.count_rows, RowRuns.next_of}
use Rattle.sel_text.proofs.Refusals.{binview_told, bytes_past, if_made, if_told}
use Rattle.sel_text.proofs.Shown.{bytes_shown, of_views, stored_bytes, stored_count, stored_more}
use Rattle.sel_text.proofs.build.views.Goals as goal

pub returns-in_err-view_behind-clause-limit : goal.returns-in_err-view_behind-clause-limit
returns-in_err-view_behind-clause-limit c =
    let items = all_items c.args.items.now in
    let bytes = c.bytes_in.result.now in
    let store = c.loop.data.items in
    let next = next_of items c.loop.counter c.next.result _ (sym c.loop.invariant.rows ∙ c.next.ensures) in
    let all = stored_more c.args.beneath items c.loop.counter c.next.result bytes next.inside next.is c.bytes_in.ensures in
    if_told c.from_residual-in_err-view_behind.result c.in_err-view_behind.field-0.0 _ c.from_residual-in_err-view_behind.ensures.1
    (λ shape view fit. told_more (exceeds_max (length store + length (bytes_behind bytes))) (exceeds_limit c.args.beneath shape (rows_read items)) c.in_err-view_behind.field-0.0
    (λ past. bytes_past c.args.beneath shape (rows_read items) view
    (past_bytes shape (of_views shape view) c.args.beneath items c.loop.counter store bytes c.loop.views.items fit c.loop.invariant.views all past)) c.in_err-view_behind.ensures.limit)

pub loop-preserved : goal.loop-preserved
loop-preserved c =
    let items = all_items c.args.items.now in
    let next = next_of items c.loop.counter c.next.result _ (sym c.loop.invariant.rows ∙ c.next.ensures) in
    let all = stored_more c.args.beneath items c.loop.counter c.next.result c.bytes_in.result.now next.inside next.is c.bytes_in.ensures in
    record {
      rows = next.others;
      views = subst (Views c.view_behind.new.placed.items c.push.new.self.items) (sym all)
          (views_more c.loop.data.items _ c.loop.views.items _ _ c.bytes_in.result.now _ c.loop.invariant.views c.in_ok-view_behind.ensures.view c.in_ok-view_behind.ensures.inline c.in_ok-view_behind.ensures.placed c.in_ok-push.ensures.items);
      few = c.in_ok-view_behind.ensures.within c.loop.invariant.few;
    }

pub returns-in_err-validity_of-clause-limit : goal.returns-in_err-validity_of-clause-limit
returns-in_err-validity_of-clause-limit c =
    if_told c.from_residual-in_err-validity_of.result c.in_err-validity_of.field-0.0 _ c.from_residual-in_err-validity_of.ensures.1
    (λ shape view fit. told_wanting (exceeds_limit c.args.beneath shape (rows_read (all_items c.args.items.now))) c.in_err-validity_of.field-0.0 c.in_err-validity_of.ensures.memory)

pub returns-in_err-try_new-clause-limit : goal.returns-in_err-try_new-clause-limit
returns-in_err-try_new-clause-limit c =
    let items = all_items c.args.items.now in
    let store = c.loop.data.items in
    let views = c.in_ok-views-2.views in
    let validity = c.in_ok-validity_of.field-0 in
    let error = c.in_err-try_new.field-0.0 in
    let counted = c.in_ok-count.ensures.count ∙ count_rows c.args.items.now in
    let so = subst (λ l. Views store c.loop.views.items (stored_bytes c.args.beneath l)) (take_all c.loop.counter items (omega (arith, counted))) c.loop.invariant.views in
    let viewed = c.buffers.view_is ∙ c.in_ok-buffers.ensures.items ∙ c.in_ok-vec.ensures.items ∙ ap (λ d. d ∷ []) c.in_ok-data.ensures.items in
    let count : length views ≡ length (rows_read items) =
    ap length c.in_ok-views-2.ensures.items ∙ views_count store c.loop.views.items (stored_bytes c.args.beneath items) so ∙ stored_count c.args.beneath items in
    let placed = subst (λ v. IsTrue (all_placed (store ∷ []) v)) (sym c.in_ok-views-2.ensures.items) so.placed in
    let fallen = subst (λ b. IsFault (binview_fault views b validity) error) viewed c.in_err-try_new.ensures.refused in
    if_made c.from_residual-in_err-try_new.result error _ c.from_residual-in_err-try_new.ensures.1
    (λ fault told. λ shape view fit. binview_told c.args.beneath shape (rows_read items) views (store ∷ []) validity error count refl placed c.in_ok-validity_of.ensures.covers fallen fault told)

pub returns : goal.returns
returns c =
    let items = all_items c.args.items.now in
    let store = c.loop.data.items in
    let column = c.in_ok-try_new.field-0 in
    let ps = stored_bytes c.args.beneath items in
    let counted = c.in_ok-count.ensures.count ∙ count_rows c.args.items.now in
    let so = subst (λ l. Views store c.loop.views.items (stored_bytes c.args.beneath l)) (take_all c.loop.counter items (omega (arith, counted))) c.loop.invariant.views in
    let viewed = c.buffers.view_is ∙ c.in_ok-buffers.ensures.items ∙ c.in_ok-vec.ensures.items ∙ ap (λ d. d ∷ []) c.in_ok-data.ensures.items in
    record {
      views = λ shape view fit.
          let shown = c.in_ok-validity_of.ensures.hides (map Bytes ps) (bytes_shown shape (of_views shape view) c.args.beneath items fit) in
          ap (λ v. view_rows v column.buffers column.validity) (c.in_ok-try_new.ensures.views ∙ c.in_ok-views-2.ensures.items)
          ∙ ap (λ b. view_rows c.loop.views.items b column.validity) (c.in_ok-try_new.ensures.buffers ∙ viewed)
          ∙ ap (masked column.validity) so.shown ∙ ap (λ v. masked v (map Bytes ps)) c.in_ok-try_new.ensures.validity ∙ shown;
      within = λ shape view fit. bytes_within shape (of_views shape view) c.args.beneath items store c.loop.views.items fit so c.loop.invariant.few;
      limit = tt;
    }
