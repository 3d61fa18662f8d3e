use Rattle.sel_gather.proofs.Common.{◌≡◌, ◌∷◌, ℕ, ℤ, List, ap, sym, subst, ◌∙◌, arith, length, map, IsRising, binary_rows, Covers, rows_between, last_offset}
use Rattle.sel_gather.proofs.Common.{Null, ends_from, joined_bytes, bytes_needed, pick}
use Rattle.sel_gather.proofs.JoinedRows.{all_bits, all_bytes, all_ends, built_ends, built_rows, column_bytes, ends_shown, length-joined, offsets_of}
use Rattle.sel_gather.proofs.JoinedRows.{picked_bytes, rebuilt, rising-ends}
use Rattle.sel_runs.proofs.RunLists.{length-pick}
use Rattle.sel_gather.proofs.Common.{is_valid, length-map}
use Rattle.sel_gather.proofs.binary.collect_binary.Goals as goal

pub of_rising-requires : goal.of_rising-requires
of_rising-requires g c =
    let rows = pick Null (map (λ s. binary_rows s.now) c.args.sources.now) (g.R.Runs.picks c.args.runs.now) in
    let shown = all_ends rows c.in_ok-joined.joined c.push_runs.new.joined c.in_ok-joined.ensures.ends c.in_ok-joined.ensures.bytes c.in_ok-push_runs.ensures.rows in
    offsets_of (λ (x : ℤ). x) c.push_runs.new.joined.ends.items (0 ∷ ends_from 0 rows) shown (rising-ends rows)

pub invariant_of-result : goal.invariant_of-result
invariant_of-result g c =
    let rows = pick Null (map (λ s. binary_rows s.now) c.args.sources.now) (g.R.Runs.picks c.args.runs.now) in
    let joined = c.push_runs.new.joined in
    let shown = all_ends rows c.in_ok-joined.joined joined c.in_ok-joined.ensures.ends c.in_ok-joined.ensures.bytes c.in_ok-push_runs.ensures.rows in
    let ends : c.in_ok-offsets.offsets ≡ 0 ∷ ends_from 0 rows = ends_shown (λ (x : ℤ). x) joined.ends.items c.in_ok-offsets.offsets rows shown c.in_ok-offsets.ensures.value in
    let bytes : c.in_ok-values.values ≡ joined_bytes rows = c.in_ok-values.ensures.items ∙ all_bytes rows c.in_ok-joined.joined joined c.in_ok-joined.ensures.bytes c.in_ok-push_runs.ensures.rows in
    let long : length rows ≡ c.args.len = length-pick Null _ (g.R.Runs.picks c.args.runs.now) ∙ c.requires.len in
    let between : rows_between c.in_ok-offsets.offsets ≡ c.args.len = ap rows_between ends ∙ built_rows rows ∙ long in
    let count : length c.in_ok-values.values ≡ bytes_needed rows = ap (λ (l : List ℕ). length l) bytes ∙ length-joined rows in
    record {
      rising = subst IsRising (sym ends) (rising-ends rows);
      rows_fit = omega (arith, between, c.requires.few);
      values_fit = omega (arith, ap last_offset ends, ap (λ (l : List ℕ). length l) bytes, built_ends rows);
      bytes_fit = omega (arith, count);
      validity_fits = subst (Covers c.in_ok-validity.validity) (sym between) c.in_ok-validity.ensures.covers;
    }

pub returns-clause-rows : goal.returns-clause-rows
returns-clause-rows g c =
    let xss = map (λ s. binary_rows s.now) c.args.sources.now in
    let rows = pick Null xss (g.R.Runs.picks c.args.runs.now) in
    let joined = c.push_runs.new.joined in
    let shown = all_ends rows c.in_ok-joined.joined joined c.in_ok-joined.ensures.ends c.in_ok-joined.ensures.bytes c.in_ok-push_runs.ensures.rows in
    let ends : c.in_ok-offsets.offsets ≡ 0 ∷ ends_from 0 rows = ends_shown (λ (x : ℤ). x) joined.ends.items c.in_ok-offsets.offsets rows shown c.in_ok-offsets.ensures.value in
    let bytes : c.in_ok-values.values ≡ joined_bytes rows = c.in_ok-values.ensures.items ∙ all_bytes rows c.in_ok-joined.joined joined c.in_ok-joined.ensures.bytes c.in_ok-push_runs.ensures.rows in
    let bits = c.in_ok-validity.ensures.bits ∙ all_bits rows c.in_ok-joined.joined joined c.in_ok-joined.ensures.bits c.in_ok-push_runs.ensures.rows in
    let all = picked_bytes (λ s. binary_rows s.now) (λ s k. column_bytes s.now.offsets s.now.values s.now.validity k) c.args.sources.now (g.R.Runs.picks c.args.runs.now) in
    rw (ends, bytes) (rebuilt rows c.in_ok-validity.validity c.args.len all (length-pick Null xss (g.R.Runs.picks c.args.runs.now) ∙ c.requires.len) bits)

pub validity_from-requires : goal.validity_from-requires
validity_from-requires g c =
    let xss = map (λ s. binary_rows s.now) c.args.sources.now in
    let rows = pick Null xss (g.R.Runs.picks c.args.runs.now) in
    let bits = all_bits rows c.in_ok-joined.joined c.push_runs.new.joined c.in_ok-joined.ensures.bits c.in_ok-push_runs.ensures.rows in
    ap length bits ∙ length-map rows is_valid ∙ length-pick Null xss (g.R.Runs.picks c.args.runs.now) ∙ c.requires.len

pub push_runs-requires-clause-room : goal.push_runs-requires-clause-room
push_runs-requires-clause-room g c =
    let none : length c.in_ok-joined.joined.bytes.items ≡ 0 = ap (λ (l : List ℕ). length l) c.in_ok-joined.ensures.bytes in
    omega (arith, none, c.count_bytes-need.ensures, c.if-need.false)
