-- The selection processes of a path, collected one after another.
use Rattle.std.proofs.Common.{◌≡◌, ℕ, suc, ◌+◌, ◌<◌, ◌≤◌, Bool, true, false, cond, List, [], ◌∷◌, ◌++◌, length, drop, get_or, refl, sym, ap, ◌∙◌, arith, append_assoc, length-append}
use Rattle.fx_tables.specs.declared.observation.Selection.{Selection}
use Rattle.fx_tables.specs.declared.traffic.Crossing.{Crossing}
use Rattle.fx_tables.specs.Network.{Net, Point, points_of}
use Rattle.fx_base.specs.Entries.{entry_numbered}
use Rattle.fx_tables.specs.Occurrences.{watches}
use Rattle.fx_leaf.specs.PathSelections.{PathSelection, point_selections, watching_selections, crossing_selections, path_selections}
use Rattle.fx_leaf.proofs.JoinedVerdicts.{drop_here}

-- ---- how many there are

pub length_point : (crossing point process : ℕ) (ss : List Selection)
    → length (point_selections crossing point process ss) ≡ length ss
length_point crossing point process [] = refl
length_point crossing point process (s ∷ ss) = ap suc (length_point crossing point (process + 1) ss)

pub watching_length : (number n : ℕ) (c : Crossing) (p : Point) (b : Bool) → b ≡ watches p c → b ≡ true
    → length (watching_selections number n c p) ≡ length p.selections
watching_length number n c p b is reported = let seen : watches p c ≡ true = sym is ∙ reported in
    rw seen (length_point number n 1 p.selections)

pub unwatched_length : (number n : ℕ) (c : Crossing) (p : Point) (b : Bool) → b ≡ watches p c → b ≡ false
    → length (watching_selections number n c p) ≡ 0
unwatched_length number n c p b is reported = let unseen : watches p c ≡ false = sym is ∙ reported in rw unseen refl

abbrev pub count_watching : Crossing → List Point → ℕ
count_watching c [] = 0
count_watching c (p ∷ ps) = length (watching_selections 1 1 c p) + count_watching c ps

same_length : (number n : ℕ) (c : Crossing) (p : Point) → length (watching_selections number n c p)
    ≡ length (watching_selections 1 1 c p)
same_length number n c p = go (watches p c)
  where
    go : (b : Bool) → length (cond b (point_selections number n 1 p.selections) [])
        ≡ length (cond b (point_selections 1 1 1 p.selections) [])
    go true = length_point number n 1 p.selections ∙ sym (length_point 1 1 1 p.selections)
    go false = refl

pub length_crossing : (number n : ℕ) (ps : List Point) (c : Crossing) → length (crossing_selections number n ps c)
    ≡ count_watching c ps
length_crossing number n [] c = refl
length_crossing number n (p ∷ ps) c =
    let here = same_length number n c p in
    let rest = length_crossing number (n + 1) ps c in
    let both = length-append (watching_selections number n c p) (crossing_selections number (n + 1) ps c) in
    omega (arith, here, rest, both)

abbrev pub count_along : Net → List Crossing → ℕ
count_along net [] = 0
count_along net (c ∷ cs) = count_watching c (points_of (entry_numbered net.devices c.device)) + count_along net cs

pub length_path : (net : Net) (n : ℕ) (cs : List Crossing) → length (path_selections net n cs) ≡ count_along net cs
length_path net n [] = refl
length_path net n (c ∷ cs) =
    let ps = points_of (entry_numbered net.devices c.device) in
    let here = length_crossing n 1 ps c in
    let rest = length_path net (n + 1) cs in
    let both = length-append (crossing_selections n 1 ps c) (path_selections net (n + 1) cs) in
    omega (arith, here, rest, both)

pub watching_more : (c : Crossing) (ps : List Point) (k : ℕ) (p : Point) → k < length ps → p ≡ get_or ps k p
    → count_watching c (drop k ps) ≡ length (watching_selections 1 1 c p) + count_watching c (drop (k + 1) ps)
watching_more c ps k p lt is = ap (count_watching c) (drop_here ps k p lt)
    ∙ ap (λ (x : Point). length (watching_selections 1 1 c x) + count_watching c (drop (k + 1) ps)) (sym is)

pub along_more : (net : Net) (cs : List Crossing) (k : ℕ) (c : Crossing) → k < length cs → c ≡ get_or cs k c
    → count_along net (drop k cs) ≡ count_watching c (points_of (entry_numbered net.devices c.device))
    + count_along net (drop (k + 1) cs)
along_more net cs k c lt is = ap (count_along net) (drop_here cs k c lt)
    ∙ ap (λ (x : Crossing). count_watching x (points_of (entry_numbered net.devices x.device))
    + count_along net (drop (k + 1) cs)) (sym is)

-- ---- what is collected so far, and what is still to come

-- a part more, which came first of what was still to come
part_more : (items part rest all now : List PathSelection) → now ≡ items ++ part → items ++ (part ++ rest) ≡ all → now
    ++ rest ≡ all
part_more items part rest all now e h = ap (λ (xs : List PathSelection). xs ++ rest) e ∙ append_assoc items part rest
    ∙ h

pub processes_more : (crossing point k : ℕ) (ss : List Selection) (s : Selection) (items all now : List PathSelection)
    → k < length ss → s ≡ get_or ss k s → now ≡ items
    ++ record { crossing = crossing; point = point; process = k + 1; selection = s } ∷ []
    → items ++ point_selections crossing point (k + 1) (drop k ss) ≡ all → now
    ++ point_selections crossing point (k + 1 + 1) (drop (k + 1) ss) ≡ all
processes_more crossing point k ss s items all now lt is e h =
    let here : drop k ss ≡ s ∷ drop (k + 1) ss = drop_here ss k s lt
    ∙ ap (λ (x : Selection). x ∷ drop (k + 1) ss) (sym is) in
    part_more items (record { crossing = crossing; point = point; process = k + 1; selection = s } ∷ [])
    (point_selections crossing point (k + 1 + 1) (drop (k + 1) ss)) all now e
    (ap (λ (xs : List Selection). items ++ point_selections crossing point (k + 1) xs) (sym here) ∙ h)

pub points_more : (number k : ℕ) (crossing : Crossing) (ps : List Point) (p : Point)
    (items all now : List PathSelection) → k < length ps → p ≡ get_or ps k p → now ≡ items
    ++ watching_selections number (k + 1) crossing p
    → items ++ crossing_selections number (k + 1) (drop k ps) crossing ≡ all → now
    ++ crossing_selections number (k + 1 + 1) (drop (k + 1) ps) crossing ≡ all
points_more number k crossing ps p items all now lt is e h =
    let here : drop k ps ≡ p ∷ drop (k + 1) ps = drop_here ps k p lt ∙ ap (λ (x : Point). x ∷ drop (k + 1) ps) (sym is)
    in
    part_more items (watching_selections number (k + 1) crossing p)
    (crossing_selections number (k + 1 + 1) (drop (k + 1) ps) crossing) all now e
    (ap (λ (xs : List Point). items ++ crossing_selections number (k + 1) xs crossing) (sym here) ∙ h)

pub crossings_more : (net : Net) (k : ℕ) (cs : List Crossing) (c : Crossing) (items all now : List PathSelection) → k
    < length cs → c ≡ get_or cs k c → now ≡ items
    ++ crossing_selections (k + 1) 1 (points_of (entry_numbered net.devices c.device)) c
    → items ++ path_selections net (k + 1) (drop k cs) ≡ all → now ++ path_selections net (k + 1 + 1) (drop (k + 1) cs)
    ≡ all
crossings_more net k cs c items all now lt is e h =
    let here : drop k cs ≡ c ∷ drop (k + 1) cs = drop_here cs k c lt
    ∙ ap (λ (x : Crossing). x ∷ drop (k + 1) cs) (sym is) in
    part_more items (crossing_selections (k + 1) 1 (points_of (entry_numbered net.devices c.device)) c)
    (path_selections net (k + 1 + 1) (drop (k + 1) cs)) all now e
    (ap (λ (xs : List Crossing). items ++ path_selections net (k + 1) xs) (sym here) ∙ h)

-- room for all leaves room for a part of what is still to come
pub room_for : (items part rest all : List PathSelection) (room : ℕ) → items ++ (part ++ rest) ≡ all → length all ≤ room
    → length items + length part ≤ room
room_for items part rest all room e fits =
    let a = length-append items (part ++ rest) in
    let b = length-append part rest in
    let l = ap length e in
    omega (arith, a, b, l, fits)
