-- Lists that are parsed one by one.
use Rattle.std.proofs.lemmas.Grind.{common_steps}
use Rattle.sel_lines.proofs.Common.{map-append, append-nil, Bits, hidden, list_rows, Value, Null, Number, is_valid, validities, items_in, joined_items, item_ends, HasRead, IsListRow}
use Rattle.std.proofs.Common.{◌≡◌, ℕ, ℤ, zero, suc, pos, ◌+◌, Bool, List, [], ◌∷◌, ◌++◌, length, length-append, get_or, map, Some, arith, refl, ap, sym, ◌∙◌}
use Rattle.sel_bits.specs.Bits.{unsliced}
use Rattle.sel_arrow.proofs.Rows.{length-mapped}
use Rattle.sel_gather.proofs.{ItemRuns.ends-append, ItemRuns.joined-append, JoinedRows.same_numbers, Rebuilt.IsListed, Rebuilt.lists_rebuilt}
use Rattle.sel_lines.{specs.declared.lists.Lists.Lists, proofs.RowLemmas.items_more}

pub held_length : (flags : List Bool) (values : List ℤ) → length (hidden flags (map Number values)) ≡ length values
held_length flags values = length-mapped Number values (Some (unsliced flags))

listed_more : (read : List Value) (row : Value) → ((k : ℕ) → IsListRow (get_or read k Null)) → IsListRow row → (k : ℕ) → IsListRow (get_or (read ++ row ∷ []) k Null)
listed_more [] row all h zero = h
listed_more [] row all h (suc k) = tt
listed_more (r ∷ read) row all h zero = all 0
listed_more (r ∷ read) row all h (suc k) = listed_more read row (λ i. all (suc i)) h k

-- One more row.
pub read_more : (read : List Value) (old new : Lists) (row : Value) (xs : List ℤ) (bs : List Bool) (b : Bool) → HasRead read old →
    length bs ≡ length xs →
    new.values.items ≡ old.values.items ++ xs → new.flags.items ≡ old.flags.items ++ bs →
    new.ends.items ≡ old.ends.items ++ pos (length new.values.items) ∷ [] →
    new.validity.items ≡ old.validity.items ++ b ∷ [] → is_valid row ≡ b → hidden bs (map Number xs) ≡ items_in 0 row → IsListRow row →
    HasRead (read ++ row ∷ []) new
read_more read old new row xs bs b has paired values flags ends valid is held listed =
    let joined = joined_items 0 read in
    let count : length new.values.items ≡ (0 + length joined) + length (items_in 0 row) =
    omega (arith, ap length values, ap length has.items, ap length held, held_length, length-append {A = ℤ}) in
    record {
      items =
          items_more Number old.flags.items new.flags.items bs old.values.items new.values.items xs has.flags flags values
          ∙ ap (λ l. l ++ hidden bs (map Number xs)) has.items
          ∙ ap (λ l. joined ++ l) (held ∙ sym (append-nil (items_in 0 row))) ∙ sym (joined-append 0 read (row ∷ []));
      flags = omega (arith, ap length values, ap length flags, length-append {A = ℤ}, length-append {A = Bool});
      ends =
          ends ∙ ap (λ l. l ++ pos (length new.values.items) ∷ []) has.ends ∙ ap (λ n. map pos (0 ∷ item_ends 0 read) ++ pos n ∷ []) count
          ∙ sym (ap (λ l. map pos (0 ∷ l)) (ends-append 0 read (row ∷ [])) ∙ map-append pos (0 ∷ item_ends 0 read) (((0 + length joined) + length (items_in 0 row)) ∷ []));
      valid = valid ∙ ap (λ l. l ++ b ∷ []) has.valid ∙ ap (λ v. validities read ++ v ∷ []) (sym is) ∙ sym (map-append is_valid read (row ∷ []));
      listed = listed_more read row has.listed listed;
    }

listed_row : (v : Value) → IsListRow v → IsListed v
listed_row v h = grind (arith, common_steps)

-- The column of the parts.
pub lists_made : (read : List Value) (lists : Lists) (offsets : List ℕ) (child : List Value) (validity : Bits) → HasRead read lists → map pos offsets ≡ lists.ends.items →
    child ≡ hidden lists.flags.items (map Number lists.values.items) → validity.bits ≡ lists.validity.items → list_rows offsets child (Some validity) ≡ read
lists_made read lists offsets child validity has ends items valid =
    lists_rebuilt read offsets child (Some validity) (length read) (λ k. listed_row (get_or read k Null) (has.listed k)) refl
    (same_numbers offsets (0 ∷ item_ends 0 read) (ends ∙ has.ends)) (items ∙ has.items) (valid ∙ has.valid)
