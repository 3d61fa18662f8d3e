use Rattle.sel_kernels.proofs.Common.{◌≡◌, ◌∙◌, SFits, Some, of_z, to_z, ap, arith, get_or, length, place, pos, rules, sym, to_z-of_z, w64}
use Rattle.sel_kernels.proofs.BareElements.{inside_child, one_more}
use Rattle.sel_kernels.proofs.gather.sublist.bare_elements.values_of.Goals as goal

pub offset_bounds-from-k : goal.offset_bounds-from-k
offset_bounds-from-k g c =
    let inside = inside_child c.loop-k.k (length c.args.indices.now) c.args.size c.in-Some.i (length c.args.from.now) _ c.loop-k-test.true (sym c.in-Some.ensures) c.requires.len in
    omega (arith, inside)

pub bounds-from-k : goal.bounds-from-k
bounds-from-k g c = inside_child c.loop-k.k (length c.args.indices.now) c.args.size c.in-Some.i (length c.args.from.now) _ c.loop-k-test.true (sym c.in-Some.ensures) c.requires.len

pub loop-k-preserved : goal.loop-k-preserved
loop-k-preserved g c =
    let from = c.args.from.now in
    let indices = c.args.indices.now in
    let size = c.args.size in
    let k = c.loop-k.k in
    let i = c.in-Some.i in
    let index = get_or indices k (pos 0) in
    let fits : SFits w64 index = search rules in
    let found : place index size ≡ Some i = ap (λ z. place z size) (sym (to_z-of_z w64 index fits)) ∙ sym {b = place (to_z w64 (of_z w64 index)) size} c.in-Some.ensures in
    record {
      items =
          one_more g.T.NativeType.number from size indices c.loop-k.values.items c.push_reserved.new.self.items k i c.index-from-k.result found
          (inside_child k (length indices) size i (length from) index c.loop-k-test.true found c.requires.len) c.index-from-k.is c.push_reserved.ensures.items c.loop-k.invariant.items;
      count = omega (arith, c.push_reserved.ensures.len, c.loop-k.invariant.count);
      room = omega (arith, c.push_reserved.ensures.capacity, c.loop-k.invariant.room);
    }
