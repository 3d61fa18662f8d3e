-- The invariant of the filter that copies runs, over plain variables.
use Rattle.sel_filter.proofs.Common.{◌≡◌, ℕ, refl, ◌+◌, ◌-◌, ◌/◌, ◌^◌, ◌<◌, ◌≤◌, ◌∙◌, sym, ap, arith, List, ◌++◌, length, take, drop, Bool, false, append_assoc}
use Rattle.sel_filter.proofs.Common.{length-append, subst, length-take, take-add, bits, word_of, select, starts_after, Bits, reached, after_word}
use Rattle.sel_bits.specs.Reading.{WordReading, next_bits, next_count}
use Rattle.std.proofs.lemmas.List.{take-append-le, take-take}
use Rattle.std.proofs.Math.Seq.{take-append_seam}
use Rattle.sel_bits.specs.Copying.{Copying, IsBeginning}
use Rattle.sel_filter.proofs.{WordRuns.starts_append, WordRuns.starts_cut, WordRuns.starts_padded, WordRuns.starts_half, Selects.select_split}
use Rattle.sel_filter.proofs.Filtering.{word_fits, word_more, word_bits}

-- ---- prefixes

pub begins_more : {A : Type 0} (xs ys zs : List A) → IsBeginning xs ys → IsBeginning xs (ys ++ zs)
begins_more xs ys zs is = grind (arith, length-take, take-append-le)

-- A prefix of a prefix is a prefix.
pub begins_through : {A : Type 0} (xs more ys zs : List A) → ys ≡ xs ++ more → IsBeginning ys zs → IsBeginning xs zs
begins_through xs more ys zs is begun =
    let le : length xs ≤ length ys = omega (arith, ap length is, length-append xs more) in
    sym (ap (take (length xs)) is ∙ take-append_seam xs more) ∙ ap (take (length xs)) begun ∙ take-take (length xs) (length ys) zs le

-- The state of the filter: the rows up to the position of the mask reader are filtered.
pub record IsRunFiltered {A : Type 0} (source before : List A) (ms : Bits) (start : ℕ) (values : Copying A) (mask : WordReading) : Type 0 where
  pub values_source : values.source ≡ source
  pub mask_source : mask.source ≡ ms
  pub lengths : length values.source ≡ length mask.source.bits
  pub here : start ≡ reached mask
  pub gives : values.items ≡ before ++ select (take start values.source) (take start mask.source.bits)
  pub counts : values.copies ≤ mask.words_read + starts_after false (take start mask.source.bits)

module _ {A : Type 0} (source before : List A) (ms : Bits) (start : ℕ) (values : Copying A) (mask : WordReading) (was : IsRunFiltered source before ms start values mask)
    (word count : ℕ) (is_word : word ≡ word_of (next_bits mask)) (is_count : count ≡ next_count mask) where
  abbrev xs : List A
  xs = values.source

  abbrev marks : List Bool
  marks = mask.source.bits

  abbrev end : ℕ
  end = start + count

  pub run_fits : word < 2 ^ (length values.source - start)
  run_fits = word_fits xs mask start count word was.lengths was.here is_word is_count

  -- The items after this word.
  run_gives : (items : List A) → items ≡ values.items ++ select (drop start xs) (bits (length xs - start) word) → items ≡ before ++ select (take end xs) (take end marks)
  run_gives items = word_more xs mask start count word was.lengths was.here is_word is_count before values.items items was.gives

  -- The copies for this word number at most one more than the runs that begin in it.
  pub run_copies : values.copies + starts_after false (bits (length values.source - start) word) ≤ mask.words_read + 1 + starts_after false (take (start + count) mask.source.bits)
  run_copies =
      let next = take count (drop start marks) in
      let starts = ap (starts_after false) (word_bits xs mask start count word was.lengths was.here is_word is_count) ∙ starts_padded false next _ in
      omega (arith, was.counts, starts, ap (starts_after false) (take-add start count marks), starts_append false (take start marks) next, starts_cut next)

  pub run_room : length ms.bits < 2 ^ 64 → (next : WordReading) → next ≡ after_word mask → next.words_read ≤ length next.source.bits / 64 + 2 → values.copies + starts_after false (bits (length values.source - start) word) < 2 ^ 64
  run_room fits next is bound = grind (arith, run_copies, starts_half, length-take)

  -- What a part of the word keeps is a prefix of all that is kept.
  pub run_begun : (items : List A) → IsBeginning items (values.items ++ select (drop start values.source) (bits (length values.source - start) word)) → IsBeginning items (before ++ select source ms.bits)
  run_begun items is =
      let kept = select (take end xs) (take end marks) in
      let all = append_assoc before kept (select (drop end xs) (drop end marks)) ∙ ap (λ l. before ++ l) (select_split xs marks end was.lengths) ∙ (λ i. before ++ select (was.values_source i) (was.mask_source i).bits) in
      subst (IsBeginning items) all (begins_more items (before ++ kept) _ (subst (IsBeginning items) (run_gives _ refl) is))

  pub run_filtered : (next : Copying A) (later : WordReading) → later ≡ after_word mask → next.source ≡ values.source → next.items ≡ values.items ++ select (drop start values.source) (bits (length values.source - start) word)
      → next.copies ≡ values.copies + starts_after false (bits (length values.source - start) word)
      → IsRunFiltered source before ms (start + count) next later
  run_filtered next later is kept gave counted = grind (arith, run_gives, run_copies)

pub ruleset run_steps = (run_fits, run_room, run_begun)
