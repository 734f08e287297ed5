-- Stores that take in what comes to them.
use Rattle.std.proofs.Common.{◌≡◌, false, ℕ, zero, suc, ◌<◌, ◌≤◌, List, [], ◌∷◌, ◌++◌, length, set, get_or, Option, Some, None, option_map, refl, sym, ap, ◌∙◌, append-nil, append_assoc}
use Rattle.std.specs.Prelude.{option_and_then, if◌then◌else◌}
use Rattle.fx_base.specs.declared.counts.Counts.{Counts}
use Rattle.fx_tables.specs.declared.holding.Holding.{Holding}
use Rattle.fx_tables.specs.Network.{Net}
use Rattle.fx_store.specs.Flows.{Entry}
use Rattle.fx_net.specs.declared.leaving.Leaver.{Leaver}
use Rattle.fx_net.specs.Stores.{Stored, with_counts, makes_room}
use Rattle.fx_net.specs.Contents.{Contents, with_changed, stored_at, is_immediate}
use Rattle.fx_layout.specs.Keys.{Key}
use Rattle.fx_net.specs.Leaving.{leaver, after_leaves}
use Rattle.fx_net.specs.Taking.{Adding, left_by, with_holding, with_holdings, stores_and_leavers, leaves_at_once, all_leave_at_once, with_stores, after_taking}
use Rattle.fx_net.proofs.ChangedLists.{changed_past, changed_same, changed_set, stored_is, stored_past, set_same}

adding_is : (stores stores2 : List (Option Stored)) (left left2 : List Leaver) → stores ≡ stores2 → left ≡ left2
    → ◌≡◌ {A = Adding} (record { stores = stores; left = left }) (record { stores = stores2; left = left2 })
adding_is stores stores2 left left2 e f =
    ap (λ (x : List (Option Stored)). ◌of◌ x left) e ∙ ap (λ (y : List Leaver). ◌of◌ stores2 y) f
  where
    ◌of◌ : List (Option Stored) → List Leaver → Adding
    ◌of◌ x y = record { stores = x; left = y }

room : Counts → Holding → Option Stored → List Leaver
room counts h stored = left_by h.holder (option_and_then (λ s. makes_room s h.key counts) stored)

-- the holder isn't there
pub holding_past : (counts : Counts) (h : Holding) (stores : List (Option Stored)) (left : List Leaver) → length stores
    ≤ h.holder
    → ◌≡◌ {A = Adding} (record { stores = stores; left = left })
    (with_holding counts h (record { stores = stores; left = left }))
unfolding room
holding_past counts h stores left le =
    adding_is _ _ _ _ (sym (changed_past _ stores h.holder le))
    (sym (append-nil left) ∙ ap (λ (s : Option Stored). left ++ room counts h s) (sym (stored_past stores h.holder le)))

-- it is an immediate cache
pub holding_none : (counts : Counts) (h : Holding) (stores : List (Option Stored)) (left : List Leaver)
    (x : Option Stored) → h.holder < length stores → x ≡ get_or stores h.holder x → x ≡ None
    → ◌≡◌ {A = Adding} (record { stores = set stores h.holder x; left = left })
    (with_holding counts h (record { stores = stores; left = left }))
unfolding room
holding_none counts h stores left x lt e none =
    let f = option_map (λ (s : Stored). with_counts s h.key counts) in
    let is : get_or stores h.holder x ≡ x = sym e in
    let same : f (get_or stores h.holder x) ≡ get_or stores h.holder x = ap f (is ∙ none) ∙ sym (is ∙ none) in
    adding_is _ _ _ _ (set_same stores h.holder x lt e ∙ sym (changed_same f stores h.holder x lt same))
    (sym (append-nil left) ∙ ap (λ (s : Option Stored). left ++ room counts h s)
    (sym (stored_is stores h.holder x lt e ∙ none)))

-- it has a store
pub holding_some : (counts : Counts) (h : Holding) (stores : List (Option Stored)) (left : List Leaver)
    (old new : Stored) (result : Option Entry) → h.holder < length stores → Some old ≡ get_or stores h.holder (Some old)
    → new ≡ with_counts old h.key counts → result ≡ makes_room old h.key counts
    → ◌≡◌ {A = Adding} (record { stores = set stores h.holder (Some new); left = left ++ left_by h.holder result })
    (with_holding counts h (record { stores = stores; left = left }))
unfolding room
holding_some counts h stores left old new result lt e is leaves =
    let f = option_map (λ (s : Stored). with_counts s h.key counts) in
    adding_is _ _ _ _ (changed_set f stores h.holder (Some old) (Some new) lt (ap Some is ∙ ap f e))
    (ap (λ (r : Option Entry). left ++ left_by h.holder r) leaves
    ∙ ap (λ (s : Option Stored). left ++ room counts h s) (sym (stored_is stores h.holder (Some old) lt e)))

-- ---- what leaves at once

-- whether the holder at a place is an immediate cache doesn't change where something is added
immediate_still : (f : Stored → Stored) (stores : List (Option Stored)) (n p : ℕ)
    → is_immediate (stored_at (with_changed (option_map f) stores n) p) ≡ is_immediate (stored_at stores p)
immediate_still f [] n p = refl
immediate_still f (x ∷ xs) zero zero = elim x as (λ y. is_immediate (option_map f y) ≡ is_immediate y)
    [ None ↦ refl | Some s ↦ refl ]
immediate_still f (x ∷ xs) zero (suc p) = refl
immediate_still f (x ∷ xs) (suc n) zero = refl
immediate_still f (x ∷ xs) (suc n) (suc p) = immediate_still f xs n p

immediate_after : (counts : Counts) (hs : List Holding) (a : Adding) (p : ℕ)
    → is_immediate (stored_at (with_holdings counts hs a).stores p) ≡ is_immediate (stored_at a.stores p)
immediate_after counts [] a p = refl
immediate_after counts (h ∷ hs) a p =
    immediate_after counts hs (with_holding counts h a) p
    ∙ immediate_still (λ s. with_counts s h.key counts) a.stores h.holder p

-- what leaves at once is reported as well before anything was added
same_leave : (counts : Counts) (hs : List Holding) (before after : List (Option Stored))
    → ((p : ℕ) → is_immediate (stored_at after p) ≡ is_immediate (stored_at before p))
    → all_leave_at_once before counts hs ≡ all_leave_at_once after counts hs
same_leave counts [] before after h = refl
same_leave counts (x ∷ xs) before after h =
    ap (λ b. (if b then leaver x.holder (x.key, counts) ∷ [] else []) ++ all_leave_at_once before counts xs)
    (sym (h x.holder))
    ∙ ap (λ ls. leaves_at_once after counts x ++ ls) (same_leave counts xs before after h)

-- nothing leaves at once of a holder that isn't an immediate cache
pub none_at_once : (stores : List (Option Stored)) (counts : Counts) (h : Holding) (passing : List Leaver)
    → is_immediate (stored_at stores h.holder) ≡ false → passing ≡ passing ++ leaves_at_once stores counts h
none_at_once stores counts h passing e =
    sym (append-nil passing) ∙ ap (λ b. passing ++ (if b then leaver h.holder (h.key, counts) ∷ [] else [])) (sym e)

-- what leaves at once, one holder on
pub passing_next : (counts : Counts) (h : Holding) (rest : List Holding) (before stores : List (Option Stored))
    (passing more all : List Leaver)
    → more ≡ passing ++ leaves_at_once stores counts h
    → is_immediate (stored_at stores h.holder) ≡ is_immediate (stored_at before h.holder)
    → passing ++ all_leave_at_once before counts (h ∷ rest) ≡ all
    → more ++ all_leave_at_once before counts rest ≡ all
passing_next counts h rest before stores passing more all e still is =
    ap (λ ls. ls ++ all_leave_at_once before counts rest)
    (e ∙ ap (λ b. passing ++ (if b then leaver h.holder (h.key, counts) ∷ [] else [])) still)
    ∙ append_assoc passing (leaves_at_once before counts h) (all_leave_at_once before counts rest) ∙ is

-- which holders are immediate caches, one holder on
pub still_next : (counts : Counts) (h : Holding) (before stores stores2 : List (Option Stored))
    (left left2 : List Leaver)
    → ◌≡◌ {A = Adding} (record { stores = stores2; left = left2 })
    (with_holding counts h (record { stores = stores; left = left }))
    → ((p : ℕ) → is_immediate (stored_at stores p) ≡ is_immediate (stored_at before p))
    → (p : ℕ) → is_immediate (stored_at stores2 p) ≡ is_immediate (stored_at before p)
still_next counts h before stores stores2 left left2 e still p =
    ap (λ (a : Adding). is_immediate (stored_at a.stores p)) e
    ∙ immediate_still (λ s. with_counts s h.key counts) stores h.holder p ∙ still p

pub taken_in_is : (net : Net) (counts : Counts) (hs : List Holding) (c mid : Contents) (stores : List (Option Stored))
    (left passing : List Leaver)
    → ◌≡◌ {A = Adding} (record { stores = stores; left = left }) (stores_and_leavers c.stores counts hs)
    → passing ≡ all_leave_at_once c.stores counts hs
    → mid ≡ after_leaves net left (with_stores c stores)
    → after_leaves net passing mid ≡ after_taking net counts hs c
taken_in_is net counts hs c mid stores left passing e is f =
    ap (after_leaves net passing) f
    ∙ ap (λ ls. after_leaves net ls (after_leaves net left (with_stores c stores)))
    (is ∙ same_leave counts hs c.stores (stores_and_leavers c.stores counts hs).stores
    (immediate_after counts hs (record { stores = c.stores; left = [] })))
    ∙ ap (λ (a : Adding). after_leaves net (all_leave_at_once (stores_and_leavers c.stores counts hs).stores counts hs)
    (after_leaves net a.left (with_stores c a.stores))) e

-- the same of what was taken in from nothing on
pub taken_in_by : (net : Net) (counts : Counts) (hs : List Holding) (c old : Contents) (stores : List (Option Stored))
    (left0 passing0 left passing : List Leaver)
    → c ≡ old → left0 ≡ [] → passing0 ≡ []
    → ◌≡◌ {A = Adding} (record { stores = stores; left = left })
    (with_holdings counts hs (record { stores = c.stores; left = left0 }))
    → passing ≡ passing0 ++ all_leave_at_once c.stores counts hs
    → after_leaves net passing (after_leaves net left (with_stores c stores)) ≡ after_taking net counts hs old
taken_in_by net counts hs c old stores left0 passing0 left passing same none none2 e is =
    taken_in_is net counts hs c (after_leaves net left (with_stores c stores)) stores left passing
    (e ∙ ap (λ ls. with_holdings counts hs (record { stores = c.stores; left = ls })) none)
    (is ∙ ap (λ ls. ls ++ all_leave_at_once c.stores counts hs) none2)
    refl
    ∙ ap (after_taking net counts hs) same

-- ---- what leaves to make room comes last

pub none_more : (stores : List (Option Stored)) (n : ℕ) (new : Stored) (left : List Leaver) (result : Option Entry)
    → result ≡ None
    → ◌≡◌ {A = Adding} (record { stores = set stores n (Some new); left = left })
    (record { stores = set stores n (Some new); left = left ++ left_by n result })
none_more stores n new left result e = adding_is _ _ _ _ refl
    (sym (append-nil left) ∙ ap (λ (r : Option Entry). left ++ left_by n r) (sym e))

pub one_more : (stores : List (Option Stored)) (n : ℕ) (new : Stored) (left more : List Leaver) (result : Option Entry)
    (key : Key) (counts : Counts) → result ≡ Some (key, counts) → more ≡ left ++ leaver n (key, counts) ∷ []
    → ◌≡◌ {A = Adding} (record { stores = set stores n (Some new); left = more })
    (record { stores = set stores n (Some new); left = left ++ left_by n result })
one_more stores n new left more result key counts e f =
    adding_is _ _ _ _ refl (f ∙ ap (λ (r : Option Entry). left ++ left_by n r) (sym e))
