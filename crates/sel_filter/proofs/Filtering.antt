-- The invariant of a filter that reads its mask word by word, over plain variables.
use Rattle.sel_filter.proofs.Common.{◌≡◌, ℕ, ◌+◌, ◌-◌, ◌^◌, ◌<◌, ◌≤◌, ◌∙◌, sym, ap, refl, arith, List, [], ◌++◌, length, take, drop, replicate, Bool, false}
use Rattle.sel_filter.proofs.Common.{append-nil, length-take, length-drop, length-append, pow_mono, bits, word_of, select, Bits, count_true, length_bits}
use Rattle.sel_filter.proofs.Common.{reached, after_word, word_of_lt}
use Rattle.sel_bits.specs.Reading.{WordReading, next_count, next_bits, BitReading, after_zeros}
use Rattle.sel_filter.proofs.WordLists.{bits_word_of}
use Rattle.sel_filter.proofs.Selects.{few_kept, length-select, select_end, select_front, select_more, select_none}

-- The next word of a mask that is read up to position `at`.
module _ {A : Type 0} (xs : List A) (mask : WordReading) (at count word : ℕ) (same : length xs ≡ length mask.source.bits) (here : at ≡ reached mask)
    (is_word : word ≡ word_of (next_bits mask)) (is_count : count ≡ next_count mask) where
  abbrev part : List Bool
  part = take count (drop at mask.source.bits)

  within : at + count ≤ length mask.source.bits
  within = omega (arith, here, is_count)

  word_is : word ≡ word_of part
  word_is = is_word ∙ (λ i. word_of (take (sym is_count i) (drop (sym here i) mask.source.bits)))

  long : length part ≡ count
  long = omega (arith, within, length-take count (drop at mask.source.bits), length-drop at mask.source.bits)

  pub word_fits : word < 2 ^ (length xs - at)
  word_fits = rw word_is (omega (arith, word_of_lt part, pow_mono {i = length part} {j = length xs - at} (omega (arith, long, within, same))))

  pub word_bits : bits (length xs - at) word ≡ take count (drop at mask.source.bits) ++ replicate (length xs - at - length (take count (drop at mask.source.bits))) false
  word_bits = ap (bits (length xs - at)) word_is ∙ bits_word_of part (length xs - at) (omega (arith, long, within, same))

  -- The set bits of the word select what the part of the mask selects.
  pub word_more : (front old new : List A) → old ≡ front ++ select (take at xs) (take at mask.source.bits) → new ≡ old ++ select (drop at xs) (bits (length xs - at) word)
      → new ≡ front ++ select (take (at + count) xs) (take (at + count) mask.source.bits)
  word_more front old new was is = grind (arith, word_bits, select_front, long, select_more)

-- The state of the filter: the rows up to the position of the mask reader are filtered.
pub record IsFiltered (vs ms : Bits) (out : List Bool) (start : ℕ) (values : BitReading) (mask : WordReading) : Type 0 where
  pub values_source : values.source ≡ vs
  pub mask_source : mask.source ≡ ms
  pub lengths : length values.source.bits ≡ length mask.source.bits
  pub here : start ≡ reached mask
  pub gives : out ≡ select (take start values.source.bits) (take start mask.source.bits)
  pub reads : values.bits_read ≡ length out

-- The state after skipped words, which have no set bit and keep nothing.
module _ (vs ms : Bits) (out : List Bool) (start : ℕ) (values : BitReading) (mask : WordReading) (was : IsFiltered vs ms out start values mask)
    (n : ℕ) (on : reached (after_zeros mask n) ≡ reached mask + n) (none : take n (drop (reached mask) mask.source.bits) ≡ replicate n false) where
  abbrev at : ℕ
  at = start + n

  abbrev later : WordReading
  later = after_zeros mask n

  abbrev xs : List Bool
  xs = values.source.bits

  abbrev marks : List Bool
  marks = mask.source.bits

  here : at ≡ reached later
  here = omega (arith, was.here, on)

  long_mask : length marks ≡ length ms.bits
  long_mask = ap (λ (s : Bits). length s.bits) was.mask_source

  gives : out ≡ select (take at xs) (take at marks)
  gives =
      let skipped = ap (λ k. take n (drop k marks)) was.here ∙ none in
      select_more [] out out xs marks start n was.lengths was.gives (sym (append-nil out) ∙ ap (λ l. out ++ l) (sym (ap (select (take n (drop start xs))) skipped ∙ select_none (take n (drop start xs)) n)))

  -- The next word.
  module _ (word count : ℕ) (is_word : word ≡ word_of (next_bits later)) (is_count : count ≡ next_count later) where
    abbrev block : List Bool
    block = select (drop at xs) (bits (length xs - at) word)

    pub marked_fits : word < 2 ^ (length values.source.bits - at)
    marked_fits = word_fits xs later at count word was.lengths here is_word is_count

    more : out ++ block ≡ select (take (at + count) xs) (take (at + count) marks)
    more = word_more xs later at count word was.lengths here is_word is_count [] out (out ++ block) gives refl

    counted : length block ≡ count_true (bits (length xs - at) word)
    counted = length-select (drop at xs) (bits (length xs - at) word) (omega (arith, length-drop at xs, length_bits (length xs - at) word))

    -- The filter reads at most as many bits as the mask has.
    pub marked_reads : values.bits_read + count_true (bits (length values.source.bits - at) word) ≤ length ms.bits
    marked_reads = omega (arith, was.reads, counted, length-append out block, ap length more, few_kept (take (at + count) xs) (take (at + count) marks), length-take (at + count) xs, was.lengths, long_mask)

    pub filtered_next : (read : BitReading) → read.source ≡ values.source → read.bits_read ≡ values.bits_read + count_true (bits (length values.source.bits - at) word)
        → IsFiltered vs ms (out ++ select (drop at values.source.bits) (bits (length values.source.bits - at) word)) (at + count) read (after_word later)
    filtered_next read kept more_reads = grind (arith, more, counted, length-append)

  -- After the last word all rows are filtered.
  module _ (end : reached later ≡ length mask.source.bits) where
    pub filtered_all : out ≡ select vs.bits ms.bits
    filtered_all = gives ∙ select_end xs marks at was.lengths (omega (arith, here, end)) ∙ (λ i. select (was.values_source i).bits (was.mask_source i).bits)

    pub reads_all : values.bits_read ≡ count_true ms.bits
    reads_all = was.reads ∙ ap length filtered_all ∙ length-select vs.bits ms.bits (omega (arith, was.lengths, long_mask, ap (λ (s : Bits). length s.bits) was.values_source))

pub ruleset filtered = (filtered_all, reads_all, marked_fits)
