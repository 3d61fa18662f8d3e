-- If-then-else, word by word of its mask.
use Rattle.sel_ternary.proofs.Common.{common_steps, ◌≡◌, ℕ, ◌+◌, ◌<◌, ◌≤◌, ◌∙◌, sym, ap, arith, List, ◌++◌, length, take, drop, append_assoc, Bits, WordReading}
use Rattle.sel_ternary.proofs.Common.{reached, bits, length_part, choose}
use borrow.Rule.Slice.PartMut.{put_mid}
use Rattle.sel_bits.{specs.Reading.after_word, specs.Reading.next_bits, specs.Reading.next_count, specs.Words.word_of, proofs.Packed.bits_word_of}
use Rattle.sel_ternary.proofs.Chosen.{AsLong, IsChosen, chosen_block, length-choose}

-- The entries of the words so far are written.
pub record IsBegun {A : Type 0} (mask : Bits) (ts fs base : List A) (reading : WordReading) (at : ℕ) (out : List A) : Type 0 where
  pub source : reading.source ≡ mask
  pub here : at ≡ reached reading
  pub chosen : IsChosen mask.bits ts fs base at out

-- The entries before, in and after a part that was written.
pub written : {A : Type 0} → (at count : ℕ) (out part : List A) → at + count ≤ length out → length part ≡ count → put_mid at count out part ≡ take at out ++ (part ++ drop (at + count) out)
written at count out part le long = grind (arith, common_steps, append_assoc)

-- The end of the next word.
pub next_end : (reading : WordReading) → reached reading < length reading.source.bits → reached reading + next_count reading ≡ reached (after_word reading)
next_end reading more = omega arith

pub next_within : (reading : WordReading) → reached (after_word reading) ≤ length reading.source.bits
next_within reading = omega arith

-- The next word of a reading that is at position `at` of the mask.
module _ (n : ℕ) (mask : Bits) (long : length mask.bits ≡ n) (reading : WordReading) (at : ℕ) (source : reading.source ≡ mask) (here : at ≡ reached reading)
    (more : reached reading < length reading.source.bits) (count : ℕ) (is_count : count ≡ next_count reading) where
  many : length reading.source.bits ≡ n
  many = ap (λ (b : Bits). length b.bits) source ∙ long

  pub word_end : at + count ≡ reached (after_word reading)
  word_end = omega (arith, here, is_count, next_end reading more)

  pub word_within : at + count ≤ n
  word_within = omega (arith, word_end, many, next_within reading)

  -- The bits of the word are those of the mask.
  pub word_bits : (word : ℕ) → word ≡ word_of (next_bits reading) → bits count word ≡ take count (drop at mask.bits)
  word_bits word is =
      let part = take count (drop at mask.bits) in
      let same : next_bits reading ≡ part = (λ i. take (sym is_count i) (drop (sym here i) (source i).bits)) in
      let size : length part ≡ count = length_part at count mask.bits (omega (arith, word_within, long)) in
      ap (bits count) (is ∙ ap word_of same) ∙ ap (λ k. bits k (word_of part)) (sym size) ∙ bits_word_of part

module _ {A : Type 0} (n : ℕ) (mask : Bits) (ts fs base : List A) (long : AsLong n mask.bits ts fs) (reading : WordReading) (at : ℕ) (out : List A) (was : IsBegun mask ts fs base reading at out) (size : length out ≡ n)
    (more : reached reading < length reading.source.bits) (count : ℕ) (is_count : count ≡ next_count reading) where
  pub begun_within : at + count ≤ n
  begun_within = word_within n mask long.mask reading at was.source was.here more count is_count

  pub begun_trues : at + count ≤ length ts
  begun_trues = omega (arith, begun_within, long.trues)

  pub begun_falses : at + count ≤ length fs
  begun_falses = omega (arith, begun_within, long.falses)

  pub begun_next : (word : ℕ) (next : WordReading) (k m : ℕ) (part : List A) → word ≡ word_of (next_bits reading) → next ≡ after_word reading → k ≡ count → m ≡ count
      → part ≡ choose (bits m word) (take m (drop at ts)) (take m (drop at fs))
      → IsBegun mask ts fs base next (at + count) (put_mid at k out part)
  begun_next word next k m part is_word is_next is_k is_m is_part =
      let block = choose (take count (drop at mask.bits)) (take count (drop at ts)) (take count (drop at fs)) in
      let same : part ≡ block = is_part ∙ ap (λ j. choose (bits j word) (take j (drop at ts)) (take j (drop at fs))) is_m ∙ ap (λ b. choose b (take count (drop at ts)) (take count (drop at fs))) (word_bits n mask long.mask reading at was.source was.here more count is_count word is_word) in
      let wide_mask : length (take count (drop at mask.bits)) ≡ count = length_part at count mask.bits (omega (arith, begun_within, long.mask)) in
      let wide_trues : length (take count (drop at ts)) ≡ count = length_part at count ts begun_trues in
      let wide_falses : length (take count (drop at fs)) ≡ count = length_part at count fs begun_falses in
      let wide : length block ≡ count =
      length-choose (take count (drop at mask.bits)) (take count (drop at ts)) (take count (drop at fs)) (wide_trues ∙ sym wide_mask) (wide_falses ∙ sym wide_mask) ∙ wide_mask in
      let put : put_mid at k out part ≡ take at out ++ (block ++ drop (at + count) out) =
      (λ i. put_mid at (is_k i) out (same i)) ∙ written at count out block (omega (arith, begun_within, size)) wide in
      record {
        source = ap (λ (r : WordReading). r.source) is_next ∙ was.source;
        here = word_end n mask long.mask reading at was.source was.here more count is_count ∙ ap reached (sym is_next);
        chosen = chosen_block n mask.bits ts fs base long at out was.chosen count (put_mid at k out part) begun_within put;
      }
