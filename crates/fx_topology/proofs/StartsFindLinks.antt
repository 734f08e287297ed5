-- A map of where links lead from finds what a look at all links does, also behind one more link.
use Rattle.std.proofs.Common.{◌≡◌, ℕ, Bool, true, false, true≢false, not, if◌then◌else◌, cond, ◌&&◌, List, [], ◌∷◌, ◌++◌, length, Some, is_some, BTreeMap, Ordering, Less, Equal, Greater, refl, ap, sym, ◌∙◌}
use Rattle.std.specs.BTreeMap.{Updates, get}
use Rattle.std.specs.List.{list_any, position}
use Rattle.std.specs.Ordering.{is_eq, ordering_then}
use Rattle.std.specs.Str.{bytes_eq}
use Rattle.std.specs.String.{string_bytes, string_cmp}
use Rattle.std.proofs.lemmas.Bool.{and_parts}
use Rattle.std.proofs.lemmas.Cmp.{nat_list_eq_equiv}
use Rattle.std.proofs.lemmas.Map.Text.{is_eq-slice_cmp}
use Rattle.std.proofs.lemmas.Slice.Eq.{bytes_eq-Decides}
use Rattle.fx_walk.proofs.Places.{some-position, position-push_failing, position-push_passing}
use Rattle.fx_topology.specs.declared.link.NamedLink.{NamedLink}
use Rattle.fx_topology.specs.declared.link_table.Start.{Start}
use Rattle.fx_topology.specs.Links.{starts_there, leads_from}
use Rattle.fx_topology.specs.Starts.{ArePlacesOfLinks, IsStartAt, IsStartOf, leads_from_start, start_cmp}

is_eq-then : (a b : Ordering) → is_eq (ordering_then a b) ≡ (is_eq a && is_eq b)
is_eq-then Less b = refl
is_eq-then Equal b = refl
is_eq-then Greater b = refl

-- the start of a link is equal to those from which it leads
equal_start : (start other : Start) (link : NamedLink) → IsStartOf start link → is_eq (start_cmp start other)
    ≡ leads_from_start other link
equal_start start other link is =
    let device = is_eq-slice_cmp (string_bytes start.device) (string_bytes other.device) in
    let process = is_eq-slice_cmp (string_bytes start.exporting_process) (string_bytes other.exporting_process) in
    let destination = is_eq-slice_cmp (string_bytes start.destination) (string_bytes other.destination) in
    is_eq-then (string_cmp start.device other.device)
    (ordering_then (string_cmp start.exporting_process other.exporting_process)
    (string_cmp start.destination other.destination))
    ∙ ap (λ (b : Bool). is_eq (string_cmp start.device other.device) && b)
    (is_eq-then (string_cmp start.exporting_process other.exporting_process)
    (string_cmp start.destination other.destination))
    ∙ (λ j. device j && (process j && destination j))
    ∙ (λ j. leads_from_start other (record {
      device = is.device_is j;
      exporting_process = is.process_is j;
      destination =
          is.destination_is j;
      to_device = link.to_device;
      to_process = link.to_process;
    }))

-- `leads_from` is `same_start`, turned
any_turned : (links : List NamedLink) (link : NamedLink) → starts_there links link
    ≡ list_any (leads_from link.device link.exporting_process link.destination) links
any_turned links link =
    λ j. list_any (λ l. nat_list_eq_equiv.symm link.device l.device j &&
    (nat_list_eq_equiv.symm link.exporting_process l.exporting_process j && nat_list_eq_equiv.symm link.destination
    l.destination j)) links

any_led : (links : List NamedLink) (start : Start) (link : NamedLink) → leads_from_start start link ≡ true
    → starts_there links link ≡ list_any (leads_from_start start) links
any_led links start link leads =
    let parts = and_parts (bytes_eq link.device (string_bytes start.device))
    (bytes_eq link.exporting_process (string_bytes start.exporting_process) && bytes_eq link.destination
    (string_bytes start.destination)) leads in
    let more = and_parts (bytes_eq link.exporting_process (string_bytes start.exporting_process))
    (bytes_eq link.destination (string_bytes start.destination)) parts.1 in
    let device = (bytes_eq-Decides link.device (string_bytes start.device)).0 parts.0 in
    let process = (bytes_eq-Decides link.exporting_process (string_bytes start.exporting_process)).0 more.0 in
    let destination = (bytes_eq-Decides link.destination (string_bytes start.destination)).0 more.1 in
    any_turned links link ∙ (λ j. list_any (leads_from (device j) (process j) (destination j)) links)

-- the link behind others of which none leads from there has the place behind theirs
place_behind : (links : List NamedLink) (link : NamedLink) (start : Start) → starts_there links link ≡ false
    → cond (leads_from_start start link) (Some (length links)) (position (leads_from_start start) links)
    ≡ position (leads_from_start start) (links ++ link ∷ [])
place_behind links link start new = by (leads_from_start start link) refl
  where
    by : (b : Bool) → leads_from_start start link ≡ b
        → cond b (Some (length links)) (position (leads_from_start start) links)
        ≡ position (leads_from_start start) (links ++ link ∷ [])
    by true leads = sym (position-push_passing (leads_from_start start) links link leads
        (sym (any_led links start link leads) ∙ new))
    by false other = sym (position-push_failing (leads_from_start start) links link other)

pub place_of_start : (places : BTreeMap Start ℕ) (links : List NamedLink) (start : Start)
    (device process destination : List ℕ) → ArePlacesOfLinks places links → IsStartAt start device process destination
    → get start_cmp places start ≡ position (leads_from device process destination) links
place_of_start places links start device process destination of is =
    of start ∙ (λ j. position (leads_from (is.device_is j) (is.process_is j) (is.destination_is j)) links)

pub starts_placed : (places : BTreeMap Start ℕ) (links : List NamedLink) (start : Start) (link : NamedLink)
    → ArePlacesOfLinks places links → IsStartOf start link → is_some (get start_cmp places start)
    ≡ starts_there links link
starts_placed places links start link of is =
    ap is_some (place_of_start places links start link.device link.exporting_process link.destination of is)
    ∙ some-position (leads_from link.device link.exporting_process link.destination) links
    ∙ sym (any_turned links link)

pub places_behind : (old new : BTreeMap Start ℕ) (links : List NamedLink) (start : Start) (link : NamedLink) (n : ℕ)
    → ArePlacesOfLinks old links → IsStartOf start link → starts_there links link ≡ false → n ≡ length links
    → Updates start_cmp old new start (Some n) → ArePlacesOfLinks new (links ++ link ∷ [])
places_behind old new links start link n of is absent count updates = λ other.
    updates.0 other
    ∙ (λ j. cond (equal_start start other link is j) (Some (count j)) (of other j))
    ∙ place_behind links link other absent

there_is : (b new : Bool) → new ≡ not b → new ≡ false → b ≡ true
there_is true new h is = refl
there_is false new h is = absurd (true≢false (sym h ∙ is))

absent_is : (b new : Bool) → new ≡ not b → new ≡ true → b ≡ false
absent_is false new h is = refl
absent_is true new h is = absurd (true≢false (sym is ∙ h))

-- where a place was kept for a link only if none led from there, whether one did
module _ (links : List NamedLink) (link : NamedLink) (new : Bool) (kept : new ≡ not (starts_there links link)) where
  pub known_placed : (places : BTreeMap Start ℕ) (now : List NamedLink) → new ≡ false
      → ArePlacesOfLinks places (if starts_there links link then links else links ++ link ∷ []) → now ≡ links
      → ArePlacesOfLinks places now
  known_placed places now is of same = rw same (rw (there_is (starts_there links link) new kept is) at of)

  pub new_placed : (places : BTreeMap Start ℕ) (before now : List NamedLink) → new ≡ true
      → ArePlacesOfLinks places (if starts_there links link then links else links ++ link ∷ []) → before ≡ links → now
      ≡ before ++ link ∷ [] → ArePlacesOfLinks places now
  new_placed places before now is of same more =
      rw (more, same) (rw (absent_is (starts_there links link) new kept is) at of)

  pub known_there : (now : List NamedLink) → new ≡ false → now ≡ links → now
      ≡ (if starts_there links link then links else links ++ link ∷ [])
  known_there now is same = rw (there_is (starts_there links link) new kept is) same

  pub new_behind : (before now : List NamedLink) → new ≡ true → before ≡ links → now ≡ before ++ link ∷ [] → now
      ≡ (if starts_there links link then links else links ++ link ∷ [])
  new_behind before now is same more = rw (absent_is (starts_there links link) new kept is, more, same) refl
