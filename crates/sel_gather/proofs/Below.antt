-- Lemmas for the recursion into children and fields.
use Rattle.sel_gather.proofs.Common.{◌≡◌, inl, inr, All, Bor, ℕ, zero, suc, ◌+◌, ◌<◌, true, List, [], ◌∷◌, ◌++◌, length, map, refl, ap, sym, subst, ◌∙◌, arith}
use Rattle.sel_gather.proofs.Common.{get_or, get_or-map, map-range_with_len_more, Limit, PolarsError, OutOfMemory, SizeLimit, ComputeError, rows, type_of}
use Rattle.sel_gather.proofs.Common.{well_formed, IsWellFormed, Shape, of_null, of_large_list, of_fixed_size_list, shapes_of, shape_list, Value, Column}
use Rattle.sel_gather.proofs.Common.{LargeList', FixedSizeList', has_lists, has_blocks, child, field, is_listing, part_at, parts_of, IsLimitOrMemory}
use Rattle.sel_gather.proofs.Common.{exceeded_taken, exceeded_in_fields}

-- ---- children

pub child_type : (c : Column) (s : Shape) → type_of c ≡ of_large_list s → type_of (child c) ≡ s
child_type (LargeList' offsets p values validity) s is = cc is
child_type c s is = absurd (cc is)

pub block_child_type : (c : Column) (s : Shape) (w : ℕ) → type_of c ≡ of_fixed_size_list s w → type_of (child c) ≡ s
block_child_type (FixedSizeList' size len p values validity) s w is = cc is
block_child_type c s w is = absurd (cc is)

pub child_formed : (c : Column) → is_listing (type_of c) ≡ true → well_formed c ≡ true → well_formed (child c) ≡ true
child_formed (LargeList' offsets p values validity) is h = (has_lists offsets values validity h).child
child_formed (FixedSizeList' size len p values validity) is h = (has_blocks size len values validity h).child
child_formed c is h = absurd (cc is)

-- ---- lists of child columns

module _ (f : Column → Column) where
  -- A property of the child of each column is a property of each element of the list of children.
  pub found_all : (P : Column → Type 0) (xs cs : List (Bor Column)) → map (λ x. x.now) xs ≡ map (λ c. f c.now) cs → All (λ c. P (f c.now)) cs → All (λ x. P x.now) xs
  found_all P [] cs e all k d h = absurd (omega (arith, h))
  found_all P (x ∷ xs) [] e all k d h = absurd (cc e)
  found_all P (x ∷ xs) (c ∷ cs) e all zero d h =
      let same : x.now ≡ f c.now = cc e in
      subst P (sym same) (all 0 c (omega arith))
  found_all P (x ∷ xs) (c ∷ cs) e all (suc k) d h =
      let rest : map (λ y. y.now) xs ≡ map (λ c. f c.now) cs = cc e in
      found_all P xs cs rest (λ i e below. all (suc i) e (omega (arith, below))) k d (omega (arith, h))

  pub found_map : {B : Type 0} (g : Column → B) (xs cs : List (Bor Column)) → map (λ x. x.now) xs ≡ map (λ c. f c.now) cs → map (λ x. g x.now) xs ≡ map (λ c. g (f c.now)) cs
  found_map g [] [] e = refl
  found_map g [] (c ∷ cs) e = absurd (cc e)
  found_map g (x ∷ xs) [] e = absurd (cc e)
  found_map g (x ∷ xs) (c ∷ cs) e =
      let same : x.now ≡ f c.now = cc e in
      let rest : map (λ y. y.now) xs ≡ map (λ c. f c.now) cs = cc e in
      ap (λ y. g y ∷ map (λ x. g x.now) xs) same ∙ ap (λ l. g (f c.now) ∷ l) (found_map g xs cs rest)

  pub mapped_now : (cs : List (Bor Column)) → map (λ c. f c.now) cs ≡ map f (map (λ c. c.now) cs)
  mapped_now [] = refl
  mapped_now (c ∷ cs) = ap (λ l. f c.now ∷ l) (mapped_now cs)

-- ---- types

pub listed_shapes : (ss : List Shape) → shape_list (shapes_of ss) ≡ ss
listed_shapes [] = refl
listed_shapes (s ∷ ss) = ap (λ l. s ∷ l) (listed_shapes ss)

-- ---- the preconditions of the recursion into children

pub record Recurses (s : Shape) (xs : List (Bor Column)) (yss : List (List Value)) : Type 0 where
  pub alike : All (λ x. type_of x.now ≡ s) xs
  pub formed : All (λ x. IsWellFormed x.now) xs
  pub rows : map (λ x. rows x.now) xs ≡ yss

pub items_recurse : (s : Shape) (xs cs : List (Bor Column)) → map (λ x. x.now) xs ≡ map (λ c. child c.now) cs → All (λ c. is_listing (type_of c.now) ≡ true) cs → All (λ c. type_of (child c.now) ≡ s) cs →
    All (λ c. IsWellFormed c.now) cs → Recurses s xs (map (λ c. rows (child c.now)) cs)
items_recurse s xs cs e lists alike formed = record {
  alike = found_all child (λ x. type_of x ≡ s) xs cs e alike;
  formed = found_all child (λ x. well_formed x ≡ true) xs cs e (λ k d h. child_formed (get_or cs k d).now (lists k d h) (formed k d h));
  rows = found_map child rows xs cs e;
}

-- ---- errors

pub refused_more : (P Q : Limit → Type 0) (fault : PolarsError) → ((limit : Limit) → P limit → Q limit) → IsLimitOrMemory P fault → IsLimitOrMemory Q fault
refused_more P Q OutOfMemory more h = tt
refused_more P Q (SizeLimit limit) more h = more limit h
refused_more P Q ComputeError more h = h

-- A limit that is exceeded in one field is exceeded in the struct.
pub past_at : (ss : List Shape) (start k : ℕ) (d : Shape) (columns : List Column) (vs : List Value) (limit : Limit) → k < length ss →
    exceeded_taken (get_or ss k d) (map (field (start + k)) columns) (map (part_at (start + k)) vs) limit → exceeded_in_fields (shapes_of ss) start columns vs limit
past_at [] start k d columns vs limit h past = absurd (omega (arith, h))
past_at (s ∷ ss) start zero d columns vs limit h past =
    let same : start + 0 ≡ start = omega arith in
    inl (subst (λ n. exceeded_taken s (map (field n) columns) (map (part_at n) vs) limit) same past)
past_at (s ∷ ss) start (suc k) d columns vs limit h past =
    let same : start + suc k ≡ (start + 1) + k = omega arith in
    inr (past_at ss (start + 1) k d columns vs limit (omega arith) (subst (λ n. exceeded_taken (get_or ss k d) (map (field n) columns) (map (part_at n) vs) limit) same past))

-- One more field.
pub parts_more : (j : ℕ) (vs : List Value) (xss : List (List Value)) (new : List (List Value)) (one : List Value) → xss ≡ parts_of j vs → new ≡ xss ++ one ∷ [] → one ≡ map (part_at j) vs → new ≡ parts_of (j + 1) vs
parts_more j vs xss new one e f g =
    f ∙ ap (λ l. l ++ one ∷ []) e ∙ ap (λ x. parts_of j vs ++ x ∷ []) g ∙ sym (map-range_with_len_more (λ k. map (part_at k) vs) 0 j j (omega arith))

-- The type of a field, from the first column.
pub field_kind : (fs : List Column) (j : ℕ) (f : Column) → j < length fs → f ≡ get_or fs j f → get_or (shape_list (shapes_of (map type_of fs))) j of_null ≡ type_of f
field_kind fs j f h is = ap (λ l. get_or l j of_null) (listed_shapes (map type_of fs)) ∙ get_or-map type_of fs j f of_null h ∙ ap type_of (sym is)
