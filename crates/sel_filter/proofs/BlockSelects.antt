-- The bits that a mask selects of blocks of 56 bits.
use Rattle.sel_filter.proofs.Common.{◌≡◌, ℕ, ◌+◌, ◌*◌, ◌≤◌, ◌∙◌, refl, ap, arith, List, [], ◌++◌, length, take, drop, Bool, count_ones, length-take}
use Rattle.sel_filter.proofs.Common.{length-drop, bits, word_of, select, Bits, length-append, pow_mono, word_of_lt}
use Rattle.sel_bits.specs.Reading.{BlockReading, after_block, block_bits}
use Rattle.sel_filter.proofs.{WordSelects.kept_ones, WordSelects.words_select, Selects.few_kept, Selects.select_end, Selects.select_more}

-- The state of the kernel: the bits of the blocks read so far are filtered.
pub record IsKept (vs ms : Bits) (out : List Bool) (kept : ℕ) (values mask : BlockReading) : Type 0 where
  pub values_source : values.source ≡ vs
  pub mask_source : mask.source ≡ ms
  pub lengths : length values.source.bits ≡ length mask.source.bits
  pub in_step : values.blocks_read ≡ mask.blocks_read
  pub gives : out ≡ select (take (56 * mask.blocks_read) values.source.bits) (take (56 * mask.blocks_read) mask.source.bits)
  pub counts : length out ≡ kept

module _ (vs ms : Bits) (out : List Bool) (kept : ℕ) (values mask : BlockReading) (was : IsKept vs ms out kept values mask)
    (v m : ℕ) (is_v : v ≡ word_of (block_bits values)) (is_m : m ≡ word_of (block_bits mask)) where
  abbrev xs : List Bool
  xs = values.source.bits

  abbrev marks : List Bool
  marks = mask.source.bits

  abbrev at : ℕ
  at = 56 * mask.blocks_read

  abbrev block : List Bool
  block = select (bits 64 v) (bits 64 m)

  few : length (take 56 (drop at marks)) ≤ 56
  few = omega (arith, length-take 56 (drop at marks))

  selected : block ≡ select (take 56 (drop at xs)) (take 56 (drop at marks))
  selected =
      let a = take 56 (drop at xs) in
      let b = take 56 (drop at marks) in
      let alike : length a ≡ length b = omega (arith, length-take 56 (drop at xs), length-take 56 (drop at marks), length-drop at xs, length-drop at marks, was.lengths) in
      (λ i. select (bits 64 ((is_v ∙ ap (λ k. word_of (take 56 (drop (56 * k) xs))) was.in_step) i)) (bits 64 (is_m i))) ∙ words_select a b (length b) alike refl (omega (arith, few))

  more : out ++ block ≡ select (take (at + 56) xs) (take (at + 56) marks)
  more = select_more [] out _ xs marks at 56 was.lengths was.gives (ap (λ l. out ++ l) selected)

  counted : length block ≡ count_ones m
  counted = kept_ones v m (rw is_m (omega (arith, word_of_lt (take 56 (drop at marks)), pow_mono {i = length (take 56 (drop at marks))} {j = 64} (omega (arith, few)))))

  pub more_kept : kept + count_ones m ≤ length ms.bits
  more_kept =
      omega (arith, was.counts, counted, length-append out block, ap length more, few_kept (take (at + 56) xs) (take (at + 56) marks), length-take (at + 56) xs, was.lengths, ap (λ (s : Bits). length s.bits) was.mask_source)

  pub kept_more : IsKept vs ms (out ++ select (bits 64 v) (bits 64 m)) (kept + count_ones m) (after_block values) (after_block mask)
  kept_more = grind (arith, more, counted, length-append)

-- After the last block all bits are filtered.
pub kept_all : (vs ms : Bits) (out : List Bool) (kept : ℕ) (values mask : BlockReading) → IsKept vs ms out kept values mask → length mask.source.bits ≤ 56 * mask.blocks_read → out ≡ select vs.bits ms.bits
kept_all vs ms out kept values mask was end = grind (arith, select_end)
