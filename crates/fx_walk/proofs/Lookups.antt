-- A map of each name's place finds what a look at the list of names finds, also behind one more name.
use Rattle.std.proofs.Common.{◌≡◌, ℕ, List, [], ◌∷◌, ◌++◌, length, Bool, true, false, cond, Option, Some, is_some, refl, ap, sym, ◌∙◌, subst, String, BTreeMap}
use Rattle.std.proofs.lemmas.Slice.Eq.{bytes_eq-Decides}
use Rattle.std.proofs.lemmas.Map.Text.{btree_map_updates_text}
use Rattle.std.specs.BTreeMap.{Updates, get_by_text}
use Rattle.std.specs.Map.{update}
use Rattle.std.specs.Str.{bytes_eq}
use Rattle.std.specs.String.{string_bytes, string_cmp}
use Rattle.fx_walk.specs.Lists.{is_among, place_in, ArePlacesOf}
use Rattle.fx_walk.proofs.Places.{some-position, position-push_failing, position-push_passing}

-- the name behind others among which it isn't has the place behind theirs, and each other text has the place that it
-- had
place_behind : (names : List (List ℕ)) (name q : List ℕ) → is_among names name ≡ false
    → update bytes_eq (place_in names) name (Some (length names)) q ≡ place_in (names ++ name ∷ []) q
place_behind names name q new = by (bytes_eq name q) refl
  where
    by : (b : Bool) → bytes_eq name q ≡ b → cond b (Some (length names)) (place_in names q)
        ≡ place_in (names ++ name ∷ []) q
    by true same =
        let is : name ≡ q = (bytes_eq-Decides name q).0 same in
        sym (position-push_passing (λ n. bytes_eq n q) names name same (ap (λ t. is_among names t) (sym is) ∙ new))
    by false other = sym (position-push_failing (λ n. bytes_eq n q) names name other)

module _ {Y : Type 0} where
  pub among_places : (places : BTreeMap (String Y) ℕ) (names : List (List ℕ)) → ArePlacesOf places names
      → (name : List ℕ) → is_some (get_by_text places name) ≡ is_among names name
  among_places places names of name = ap is_some (of name) ∙ some-position (λ n. bytes_eq n name) names

  pub places_behind : (old new : BTreeMap (String Y) ℕ) (names : List (List ℕ)) (name : List ℕ) (key : String Y) (n : ℕ)
      → ArePlacesOf old names → is_among names name ≡ false → string_bytes key ≡ name → n ≡ length names
      → Updates string_cmp old new key (Some n) → ArePlacesOf new (names ++ name ∷ [])
  places_behind old new names name key n of absent is count updates = λ q.
      subst (λ k. get_by_text new q ≡ update bytes_eq (get_by_text old) k (Some n) q) is
      (btree_map_updates_text {Y = Y} (string_bytes key) old new (Some n) updates q)
      ∙ ap (λ (m : ℕ). update bytes_eq (get_by_text old) name (Some m) q) count
      ∙ ap (λ (o : Option ℕ). cond (bytes_eq name q) (Some (length names)) o) (of q)
      ∙ place_behind names name q absent
