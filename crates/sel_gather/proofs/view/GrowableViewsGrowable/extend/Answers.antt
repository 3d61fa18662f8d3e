use Rattle.sel_gather.proofs.Common.{◌<◌, ◌+◌, ◌≤◌, ◌++◌, List, map, length, take, drop, get_or, [], ap, sym, ◌∙◌, arith, length-map, max_buffers, binview_rows}
use Rattle.sel_gather.proofs.Common.{hidden, Value, view_value}
use Rattle.sel_arrow.proofs.ViewRows.{length-view_rows}
use Rattle.sel_gather.proofs.Raising.{grown_views, source_behind, source_room, starts_long, views_lengths, views_placed}
use Rattle.sel_runs.proofs.Mapped.{source_rows}
use Rattle.sel_gather.proofs.view.GrowableViewsGrowable.extend.Goals as goal

pub bounds-starts-source : goal.bounds-starts-source
bounds-starts-source g c =
    let self = c.args.self in
    omega (arith, length-map self.sources.now (λ s. binview_rows s.now), c.requires.source, starts_long (λ s. s.now.buffers) self.sources.now self.starts.now self.started)

pub push_part-requires-clause-inside : goal.push_part-requires-clause-inside
push_part-requires-clause-inside g c =
    let from = c.index-sources-source.result in
    let named = source_rows (λ s. binview_rows s.now) c.args.self.sources.now c.args.source from c.requires.source c.index-sources-source.is in
    let long = ap length named ∙ length-view_rows from.now.views from.now.buffers from.now.validity in
    omega (arith, long, c.requires.inside)

pub push_part-requires-clause-room : goal.push_part-requires-clause-room
push_part-requires-clause-room g c =
    let self = c.args.self in
    let there : c.args.source < length self.sources.now = omega (arith, length-map self.sources.now (λ s. binview_rows s.now), c.requires.source) in
    source_room (λ s. s.now.buffers) self.sources.now g.B.NullSlots.buffers self.starts.now c.args.source c.index-sources-source.result max_buffers self.joined self.started there c.index-sources-source.is self.few

pub invariant_of-result : goal.invariant_of-result
invariant_of-result g c =
    let self = c.args.self in
    let from = c.index-sources-source.result in
    let there : c.args.source < length self.sources.now = omega (arith, length-map self.sources.now (λ s. binview_rows s.now), c.requires.source) in
    let named = source_rows (λ s. binview_rows s.now) self.sources.now c.args.source from c.requires.source c.index-sources-source.is in
    let long = ap length named ∙ length-view_rows from.now.views from.now.buffers from.now.validity in
    let inside : c.args.start + c.args.len ≤ length from.now.views = omega (arith, long, c.requires.inside) in
    let before = get_or self.starts.now c.args.source 0 in
    let behind = source_behind [] (λ s. s.now.buffers) self.sources.now g.B.NullSlots.buffers self.starts.now c.args.source from self.joined self.started there c.index-sources-source.is in
    record {
      joined = self.joined;
      few = self.few;
      started = self.started;
      lengths = views_lengths before self.views.items c.push_part.new.views.items from.now.views self.validity c.push_part.new.validity from.now.validity c.args.start c.args.len
          self.lengths inside from.now.validity_fits c.in_ok-push_part.ensures.views c.in_ok-push_part.ensures.bits;
      placed = views_placed g.B.NullSlots.buffers from.now.buffers before self.views.items c.push_part.new.views.items from.now.views c.args.start c.args.len
          behind from.now.placed self.placed c.in_ok-push_part.ensures.views;
    }

pub returns-clause-rows : goal.returns-clause-rows
returns-clause-rows g c =
    let self = c.args.self in
    let from = c.index-sources-source.result in
    let there : c.args.source < length self.sources.now = omega (arith, length-map self.sources.now (λ s. binview_rows s.now), c.requires.source) in
    let named = source_rows (λ s. binview_rows s.now) self.sources.now c.args.source from c.requires.source c.index-sources-source.is in
    let long = ap length named ∙ length-view_rows from.now.views from.now.buffers from.now.validity in
    let inside : c.args.start + c.args.len ≤ length from.now.views = omega (arith, long, c.requires.inside) in
    let before = get_or self.starts.now c.args.source 0 in
    let behind = source_behind [] (λ s. s.now.buffers) self.sources.now g.B.NullSlots.buffers self.starts.now c.args.source from self.joined self.started there c.index-sources-source.is in
    grown_views g.B.NullSlots.buffers from.now.buffers before self.views.items c.push_part.new.views.items from.now.views self.validity c.push_part.new.validity from.now.validity c.args.start c.args.len
    self.lengths inside behind from.now.placed c.in_ok-push_part.ensures.views c.in_ok-push_part.ensures.bits
    ∙ ap (λ (l : List Value). hidden self.validity (map (view_value g.B.NullSlots.buffers) self.views.items) ++ take c.args.len (drop c.args.start l)) (sym named)
