-- The bits that a mask keeps, word by word at multiples of 64, over plain variables.
use Rattle.sel_filter.proofs.Common.{◌≡◌, ℕ, ◌+◌, ◌-◌, ◌*◌, ◌/◌, ◌%◌, ◌<◌, ◌≤◌, min, ◌∙◌, sym, ap, arith, List, [], ◌++◌, take, drop}
use Rattle.sel_filter.proofs.Common.{Bool, bits_from, bits, word_of, length_bits_from, select}
use Rattle.sel_filter.proofs.{Scalars.bits_part, Scalars.bits_rest, Selects.select_end, Selects.select_more, Selects.select_split, WordSelects.words_select}

module _ (vb mb : List ℕ) (vs s n block width : ℕ) (within : 64 * block + width ≤ n) (few : width ≤ 64) (word marks : ℕ)
    (word_is : word ≡ word_of (bits_from (drop (8 * block) vb) vs width)) (marks_is : marks ≡ word_of (bits_from (drop (8 * block) mb) s width)) where
  -- The bits of a word are those of a part of the rows.
  pub words_kept : select (bits 64 word) (bits 64 marks) ≡ select (take width (drop (64 * block) (bits_from vb vs n))) (take width (drop (64 * block) (bits_from mb s n)))
  words_kept = grind (arith, words_select, length_bits_from, bits_part)

  pub word_more : (front kept more : List Bool) (end : ℕ) → kept ≡ front ++ select (take (64 * block) (bits_from vb vs n)) (take (64 * block) (bits_from mb s n)) → more ≡ kept ++ select (bits 64 word) (bits 64 marks)
      → 64 * block + width ≡ end → more ≡ front ++ select (take end (bits_from vb vs n)) (take end (bits_from mb s n))
  word_more front kept more end was is to = grind (arith, select_more, length_bits_from, words_kept)

-- After the last word all bits are filtered.
pub words_all : (vb mb : List ℕ) (vs s n : ℕ) (front kept : List Bool) → kept ≡ front ++ select (take n (bits_from vb vs n)) (take n (bits_from mb s n)) → kept ≡ front ++ select (bits_from vb vs n) (bits_from mb s n)
words_all vb mb vs s n front kept was = grind (arith, select_end, length_bits_from)

-- The bits of the rows before a byte boundary of the mask, then those of the others.
pub rows_kept : (vb mb : List ℕ) (vs s n head : ℕ) (xs ms kept first last : List Bool) (word marks : ℕ) → s < 8 → head ≡ min n ((8 - s) % 8) → xs ≡ bits_from vb vs n → ms ≡ bits_from mb s n → kept ≡ []
    → word ≡ word_of (bits_from vb vs head) → marks ≡ word_of (bits_from mb s head) → first ≡ kept ++ select (bits 64 word) (bits 64 marks)
    → last ≡ first ++ select (bits_from (drop ((vs + head) / 8) vb) ((vs + head) % 8) (n - head)) (bits_from (drop ((s + head) / 8) mb) 0 (n - head))
    → last ≡ select xs ms
rows_kept vb mb vs s n head xs ms kept first last word marks small is xs_is ms_is none word_is marks_is begun ended =
    let a = bits_from vb vs n in
    let b = bits_from mb s n in
    let few : head ≤ n = omega (arith, is) in
    let others = bits_rest vb ((vs + head) / 8) ((vs + head) % 8) vs n head few (λ inside. omega arith) in
    let others_mask = bits_rest mb ((s + head) / 8) 0 s n head few (λ inside. omega (arith, is, inside)) in
    let front = begun ∙ ap (λ l. l ++ select (bits 64 word) (bits 64 marks)) none ∙ words_kept vb mb vs s n 0 head (omega (arith, is)) (omega (arith, is)) word marks word_is marks_is in
    ended
    ∙ (λ i. front i ++ select (others i) (others_mask i))
    ∙ select_split a b head (length_bits_from vb vs n ∙ sym (length_bits_from mb s n))
    ∙ (λ i. select (sym xs_is i) (sym ms_is i))
