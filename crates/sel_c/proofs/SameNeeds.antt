-- The limits that rows exceed with the columns of handles, and with clones of them.
use Rattle.std.proofs.lemmas.Grind.{common_steps}
use Rattle.std.proofs.Common.{◌≡◌, ◌<◌, ℕ, suc, All, Bool, Some, IsTrue, List, [], ◌∷◌, ◌++◌, length, map, refl, sym, ◌∙◌, arith}
use Rattle.sel_c.proofs.Common.{flat_map, All-map, rows, type_of, buffers_held, ArrayRef, Column, Held, held_buffer_lists, held_columns, held_rows, held_type, length_mismatch, type_mismatch, index_out_of_bounds, HasColumn, PickFits, first_shape, picks_conditions, picks_in, AreAlike, CollectsRows, FlattensColumns}
use mathlib.Core.Logic.{⊎_map}
use Rattle.std.proofs.lemmas.Simd.{map-map}
use Rattle.sel_ternary.proofs.SameNeeds.{AllLike, likes, same_needs, turned}
use Rattle.sel_kernels.specs.Flatten.{parts_fit}
use Rattle.sel_ffi.specs.declared.column_ref.ColumnRef.{ColumnRef}
use Rattle.sel_c.specs.declared.calls.several.PickWords.{PickWords}
use Rattle.sel_c.proofs.{Alike.alike_columns, Alike.first_same, Limits.limit-more, Limits.returns-more}

-- A property of the columns of handles, by what it is of what a handle has.
all_told : {B : Type 0} (F : Column → B) (G : Held → B) → ((a : ArrayRef) → F a.column ≡ G (Some a)) → (hs : List ColumnRef) → All (λ h. HasColumn h.tree) hs →
    map F (flat_map (λ h. held_columns h.tree) hs) ≡ map (λ h. G h.tree) hs
all_told F G same [] full = refl
all_told F G same (h ∷ hs) full = grind (arith, common_steps, same, full 0 h (omega arith), (all_told F G same hs (λ k d below. full (suc k) d (omega (arith, below)))))

module _ (arrays : List ArrayRef) (hs : List ColumnRef) (full : All (λ h. HasColumn h.tree) hs)
    (types : map (λ a. type_of a.column) arrays ≡ map (λ h. held_type h.tree) hs) (held : map (λ a. buffers_held a.column) arrays ≡ map (λ h. held_buffer_lists h.tree) hs) where
  like_handles : AreAlike (map (λ a. type_of a.column) arrays) → AllLike (first_shape (map (λ a. type_of a.column) arrays)) (map (λ a. a.column) arrays)
      (flat_map (λ h. held_columns h.tree) hs)
  like_handles alike =
      let s = first_shape (map (λ (a : ArrayRef). type_of a.column) arrays) in
      likes s (map (λ a. a.column) arrays) (flat_map (λ h. held_columns h.tree) hs)
      (All-map (λ (c : Column). type_of c ≡ s) (λ (a : ArrayRef). a.column) arrays
      (λ k d below. alike_columns arrays alike k d below ∙ sym (first_same arrays)))
      (map-map type_of (λ (a : ArrayRef). a.column) arrays ∙ types ∙ sym (all_told type_of held_type (λ a. refl) hs full))
      (map-map buffers_held (λ (a : ArrayRef). a.column) arrays ∙ held ∙ sym (all_told buffers_held held_buffer_lists (λ a. refl) hs full))

-- ---- results of calls, with the clones and with the columns of the handles

module _ (code : ℕ) (arrays : List ArrayRef) (hs : List ColumnRef) (before after : Held) (full : All (λ h. HasColumn h.tree) hs) (same : map (λ a. rows a.column) arrays ≡ map (λ h. held_rows h.tree) hs)
    (types : map (λ a. type_of a.column) arrays ≡ map (λ h. held_type h.tree) hs) (held : map (λ a. buffers_held a.column) arrays ≡ map (λ h. held_buffer_lists h.tree) hs) where
  -- Of the horizontal flatten.
  pub flat_held : (ws : List ℕ) (h : ℕ) → FlattensColumns code (map (λ a. rows a.column) arrays) (map (λ a. type_of a.column) arrays) (map (λ a. a.column) arrays) ws h [] before after →
      FlattensColumns code (map (λ h. held_rows h.tree) hs) (map (λ h. held_type h.tree) hs) (flat_map (λ h. held_columns h.tree) hs) ws h [] before after
  flat_held ws h shown =
      let ts = map (λ (a : ArrayRef). type_of a.column) arrays in
      let checks = (type_mismatch, AreAlike ts) ∷
      (length_mismatch, (0 < length ts) × IsTrue (parts_fit h (map (λ (a : ArrayRef). rows a.column) arrays) ws)) ∷ [] in
      rw (← same, ← types) (record {
        rows = shown.rows;
        dtype = shown.dtype;
        checks = returns-more code checks _ _ (λ all. let like = like_handles arrays hs full types held all.0 in limit-more code _ _
            (λ limit past. (past.0, ⊎_map (λ p. p) (same_needs _ _ _ like _ limit) past.1))
            (λ limit past. (past.0, ⊎_map (λ p. p) (same_needs _ _ _ (turned _ _ _ like) _ limit) past.1))) shown.checks;
      })

  -- Of gathered rows.
  pub pick_held : (words : List PickWords) (bits : List ℕ) (has_bits : Bool) →
      CollectsRows code (map (λ a. rows a.column) arrays) (map (λ a. type_of a.column) arrays) (map (λ a. a.column) arrays) (picks_in words bits has_bits) (picks_conditions words bits has_bits) before after →
      CollectsRows code (map (λ h. held_rows h.tree) hs) (map (λ h. held_type h.tree) hs) (flat_map (λ h. held_columns h.tree) hs) (picks_in words bits has_bits) (picks_conditions words bits has_bits) before after
  pick_held words bits has_bits shown =
      let ts = map (λ (a : ArrayRef). type_of a.column) arrays in
      let fit = All (PickFits (map (λ (a : ArrayRef). rows a.column) arrays)) (picks_in words bits has_bits) in
      let checks = picks_conditions words bits has_bits ++ (length_mismatch, 0 < length ts) ∷ (type_mismatch, AreAlike ts) ∷ (index_out_of_bounds, fit) ∷ [] in
      rw (← same, ← types) (record {
        rows = shown.rows;
        dtype = shown.dtype;
        checks = returns-more code checks _ _ (λ all. let like = like_handles arrays hs full types held all.1.1.1.0 in
            limit-more code _ _ (same_needs _ _ _ like _) (same_needs _ _ _ (turned _ _ _ like) _)) shown.checks;
      })
