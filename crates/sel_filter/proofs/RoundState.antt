-- The invariant of the compress loop, over plain variables.
use Rattle.sel_filter.proofs.Common.{◌≡◌, ℕ, suc, ◌+◌, ◌*◌, ◌%◌, ◌^◌, ◌<◌, ◌≤◌, arith, bit_and, bit_at, w64, ones_below, compress}
use Rattle.std.specs.Int.{bit_not}
use Rattle.sel_bits.specs.Moving.{Moving}
use Rattle.sel_bits.proofs.{Prefix.shift_is, Shifts.moved}
use Rattle.sel_filter.proofs.Rounds.{Standing, CountsBlocks, MarksOdd, masked, next_standing, one_standing, first_counts, next_counts, parity_marks, one_block}
use Rattle.sel_filter.proofs.Ranks.{compress_standing}

-- ---- the invariant

pub record RoundState (m source i k : ℕ) (word : Moving) : Type 0 where
  pub standing : Standing m (bit_and source m) i word.word
  pub counts : CountsBlocks m i k
  pub moves : word.moves ≡ i
  pub same_source : word.source ≡ source

pub state_first : (m : ℕ) (w : Moving) → m < 2 ^ 64 → w.moves ≡ 0 → w.word ≡ w.source
    → RoundState m w.source 0 (bit_not w64 m) (record w { word = bit_and w.word m })
state_first m w fits unmoved whole = grind (arith, first_counts)

pub state_next : (m source i k marks : ℕ) (w : Moving) → m < 2 ^ 64 → i < 6 → marks < 2 ^ 64 → MarksOdd m i marks → RoundState m source i k w
    → RoundState m source (i + 1) (bit_and k marks) (record w { word = moved w.word marks (1 * 2 ^ i % 2 ^ 32); moves = w.moves + 1 })
state_next m source i k marks w small lt fits odd state =
    let by = shift_is i lt in
    let next : i + 1 ≡ suc i = omega arith in
    record {
      standing = rw (next, by) (next_standing m (bit_and source m) i w.word marks (masked source m small) state.standing fits odd);
      counts = rw next (next_counts m i k marks state.counts odd);
      moves = omega (arith, state.moves);
      same_source = state.same_source;
    }

-- In the last round, if any bit is kept, `k` has at most one set bit.
pub last_marks : (m k marks : ℕ) → CountsBlocks m 5 k → (ones_below k 64 ≤ 1 → (p : ℕ) → p < 64 → bit_at marks p ≡ ones_below k p % 2) → MarksOdd m 5 marks
last_marks m k marks counts parity q kept = parity_marks m 5 k marks counts (parity (one_block m k counts q kept)) q kept

pub state_last : (m source i k : ℕ) (w : Moving) → m < 2 ^ 64 → i ≡ 6 → RoundState m source i k w → w.word ≡ compress source m
state_last m source i k w fits end state = one_standing m (bit_and source m) 6 _ _ (rw end at state.standing) (compress_standing m source fits)
