use Rattle.sel_kernels.proofs.Common.{◌≡◌, suc, ◌+◌, ◌-◌, ◌*◌, ◌<◌, ◌∙◌, map, drop, length, length-map, get_or, get_or-map, all_at, nat_lt, ap, sym, refl, arith, false}
use Rattle.sel_kernels.proofs.Common.{ltb-true, from_bool, bits_from, word_of}
use Rattle.sel_kernels.proofs.{Takes.bits_at, Takes.word_before, Takes.word_small, gather.bitmap.word_of_places.Given.Over}
use Rattle.sel_kernels.proofs.gather.bitmap.word_of_places.Goals as goal

pub bit_in-requires-clause-inside : goal.bit_in-requires-clause-inside
bit_in-requires-clause-inside g c =
    let f = g.R.PlaceRule.position c.args.len in
    let indices = c.args.indices.now in
    let at = c.loop-left.left - 1 in
    let inside : at < length indices = omega (arith, c.loop-left-test.true, c.loop-left.invariant.1) in
    let below = all_at (λ place. nat_lt place c.args.len) (map f indices) at 0 c.requires.inside (omega (arith, length-map indices f, inside)) in
    rw (c.place_at-place.ensures, sym (get_or-map f indices at 0 0 inside)) (ltb-true (get_or (map f indices) at 0) c.args.len below)

pub overflow_mul-word : goal.overflow_mul-word
overflow_mul-word g c =
    let bs = bits_from c.args.bytes.now c.args.shift c.args.len in
    let places = map (g.R.PlaceRule.position c.args.len) c.args.indices.now in
    let at = c.loop-left.left - 1 in
    let long = length-map c.args.indices.now (g.R.PlaceRule.position c.args.len) in
    let after : c.loop-left.left ≡ suc at = omega (arith, c.loop-left-test.true) in
    let is = c.loop-left.invariant.0 ∙ ap (λ n. word_of (drop n (bits_at bs places))) after in
    let both = word_before bs places at c.loop-left.word (from_bool (get_or bs (get_or places at 0) false)) (omega (arith, long, after, c.loop-left.invariant.1)) is refl in
    record { fits = omega (arith, both, word_small bs places at (omega (arith, long, c.requires.few)) (omega (arith, long, c.loop-left.invariant.1))) }

next : (g : Over) → (c : goal.After-from g)
    → 2 * c.loop-left.word + c.from.result ≡ word_of (drop (c.loop-left.left - 1) (bits_at (bits_from c.args.bytes.now c.args.shift c.args.len) (map (g.R.PlaceRule.position c.args.len) c.args.indices.now)))
next g c =
    let f = g.R.PlaceRule.position c.args.len in
    let indices = c.args.indices.now in
    let bs = bits_from c.args.bytes.now c.args.shift c.args.len in
    let at = c.loop-left.left - 1 in
    let inside : at < length indices = omega (arith, c.loop-left-test.true, c.loop-left.invariant.1) in
    let after : c.loop-left.left ≡ suc at = omega (arith, c.loop-left-test.true) in
    let place = c.place_at-place.ensures ∙ sym (get_or-map f indices at 0 0 inside) in
    let found : c.bit_in.result ≡ get_or bs (get_or (map f indices) at 0) false = c.bit_in.ensures ∙ ap (λ p. get_or bs p false) place in
    let bit : c.from.result ≡ from_bool (get_or bs (get_or (map f indices) at 0) false) = c.from.ensures ∙ ap from_bool found in
    word_before bs (map f indices) at c.loop-left.word c.from.result (omega (arith, length-map indices f, inside)) (c.loop-left.invariant.0 ∙ ap (λ n. word_of (drop n (bits_at bs (map f indices)))) after) bit

pub overflow_add-word : goal.overflow_add-word
overflow_add-word g c =
    let bs = bits_from c.args.bytes.now c.args.shift c.args.len in
    let places = map (g.R.PlaceRule.position c.args.len) c.args.indices.now in
    let long = length-map c.args.indices.now (g.R.PlaceRule.position c.args.len) in
    record { fits = omega (arith, next g c, word_small bs places (c.loop-left.left - 1) (omega (arith, long, c.requires.few)) (omega (arith, long, c.loop-left.invariant.1))) }

pub loop-left-preserved : goal.loop-left-preserved
loop-left-preserved g c = (next g c, omega (arith, c.loop-left.invariant.1))
