-- The values of parsed rows with entries, and their child rows.
use Rattle.std.proofs.Common.{◌≡◌, Bor, ℕ, ◌+◌, ◌<◌, ◌≤◌, List, [], ◌∷◌, ◌++◌, map, take, length, get_or, Vec, Global, refl, sym, ap, ◌∙◌, slice_index_or}
use Rattle.sel_text.proofs.Common.{length-map, map-append, get_or-map, get_or_past, map_more, take_all, Value, Null, Items, Tuple, Values, no_values, next_value, listed, values_of, item_value, values_read, rows_read, block_in, entries_in, part_in, NullSlots, Item, ItemsItem, PartsItem, Row_of-Item, end_of-Item, more_of-Item, items-the_row-Item, items_hidden-the_row-Item-0}
use mathlib.Core.Former.{Count}
use Rattle.sel_text.specs.declared.item.Item.TheVariants.{Items', Parts'}
use Rattle.sel_text.proofs.Equalities.{list_back}

abbrev items_in : Item → (n : Count) × Row_of-Item n
items_in (Items' n items) = (_, items)
items_in (Parts' n parts) = (_, parts)
items_in _ = (_, end_of-Item)

each_item : (n : _) (row : Row_of-Item n) → values_read row ≡ values_of (map item_value (items-the_row-Item n row))
each_item n end_of-Item = refl
each_item n (more_of-Item item items) = ap (next_value (item_value item)) (each_item _ items)

pub values_back : (vs : Values) → values_of (listed vs) ≡ vs
values_back no_values = refl
values_back (next_value v vs) = ap (next_value v) (values_back vs)

-- A parsed list is the list of the values of its entries.
pub items_value : (items : Vec Item Global) (vs : Values) → map item_value items.items ≡ listed vs → item_value (ItemsItem items) ≡ Items vs
items_value items vs is =
    let row = items_in (ItemsItem items) in
    ap Items (each_item row.0 row.1 ∙ ap (λ l. values_of (map item_value l)) (items_hidden-the_row-Item-0 items) ∙ ap values_of is ∙ values_back vs)

-- A parsed struct is the struct of the values of its parts.
pub parts_value : (parts : Vec Item Global) (vs : Values) → map item_value parts.items ≡ listed vs → item_value (PartsItem parts) ≡ Tuple vs
parts_value parts vs is =
    let row = items_in (PartsItem parts) in
    ap Tuple (each_item row.0 row.1 ∙ ap (λ l. values_of (map item_value l)) (items_hidden-the_row-Item-0 parts) ∙ ap values_of is ∙ values_back vs)

-- One more item.
pub item_more : (grown items : List Item) (item : Item) (v : Value) → grown ≡ items ++ item ∷ [] → item_value item ≡ v → map item_value grown ≡ map item_value items ++ v ∷ []
item_more grown items item v grows is = ap (map item_value) grows ∙ map-append item_value items (item ∷ []) ∙ ap (λ x. map item_value items ++ x ∷ []) is

-- The same for a row that is a list, or a struct.
pub list_is : (item : Item) (items : Vec Item Global) → item ≡ ItemsItem items → item_value item ≡ Items (values_of (map item_value items.items))
list_is item items is = ap item_value is ∙ items_value items (values_of (map item_value items.items)) (sym (list_back (map item_value items.items)))

pub tuple_is : (item : Item) (parts : Vec Item Global) → item ≡ PartsItem parts → item_value item ≡ Tuple (values_of (map item_value parts.items))
tuple_is item parts is = ap item_value is ∙ parts_value parts (values_of (map item_value parts.items)) (sym (list_back (map item_value parts.items)))

-- The child rows of a parsed list.
pub block_read : (item : Item) (items : Vec Item Global) (size : ℕ) → item ≡ ItemsItem items → block_in size (item_value item) ≡ map item_value items.items
block_read item items size is = ap (block_in size) (list_is item items is) ∙ list_back (map item_value items.items)

pub entries_read : (item : Item) (items : Vec Item Global) (beneath : NullSlots) → item ≡ ItemsItem items → entries_in beneath (item_value item) ≡ map item_value items.items
entries_read item items beneath is = ap (entries_in beneath) (list_is item items is) ∙ list_back (map item_value items.items)

-- A field value of a parsed struct.
pub part_read : (item : Item) (parts : Vec Item Global) (place : ℕ) → item ≡ PartsItem parts → part_in place (item_value item) ≡ slice_index_or (map item_value parts.items) place Null
part_read item parts place is =
    ap (part_in place) (tuple_is item parts is) ∙ ap (λ l. slice_index_or l place Null) (list_back (map item_value parts.items))

pub part_there : (item : Item) (parts : Vec Item Global) (place : ℕ) (part : Item) → item ≡ PartsItem parts → place < length parts.items → part ≡ get_or parts.items place part → item_value part ≡ part_in place (item_value item)
part_there item parts place part is below here =
    ap item_value here ∙ sym (get_or-map item_value parts.items place part Null below) ∙ sym (part_read item parts place is)

pub part_none : (item : Item) (parts : Vec Item Global) (place : ℕ) → item ≡ PartsItem parts → length parts.items ≤ place → part_in place (item_value item) ≡ Null
part_none item parts place is past =
    part_read item parts place is ∙ get_or_past (map item_value parts.items) place Null (rw length-map past)

-- The rows of one more item, and of all items.
pub one_more : (items : List (Bor Item)) (i : ℕ) (item : Bor Item) → i < length items → item ≡ get_or items i item → rows_read (take (i + 1) items) ≡ rows_read (take i items) ++ item_value item.now ∷ []
one_more items i item below is = map_more (λ item. item_value item.now) items i item below ∙ ap (λ x. rows_read (take i items) ++ item_value x.now ∷ []) (sym is)

pub all_read : (items : List (Bor Item)) (i : ℕ) → length items ≤ i → rows_read (take i items) ≡ rows_read items
all_read items i past = ap rows_read (take_all i items past)
