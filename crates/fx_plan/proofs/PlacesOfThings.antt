-- Where a device's things stand among the labels of all devices' things.
use Rattle.std.proofs.Common.{◌≡◌, ℕ, ◌+◌, ◌<◌, List, [], ◌∷◌, ◌++◌, length, map, get_or, arith, Bool, true, false, Option, Some, None, refl, ap, ◌∙◌, position}
use Rattle.std.specs.List.{list_any, position_or_len}
use Rattle.std.specs.Option.{is_some}
use Rattle.std.specs.Str.{bytes_eq}
use Rattle.std.proofs.lemmas.Bool.{or_from, or_left, or_parts, or_right}
use Rattle.std.proofs.lemmas.Grind.{flat_map-append}
use Rattle.std.proofs.lemmas.List.Folds.{list_any-append}
use Rattle.std.proofs.lemmas.List.Quantifiers.{position-Some}
use Rattle.std.proofs.lemmas.Slice.Eq.{bytes_eq-Decides}
use Rattle.fx_walk.specs.Lists.{is_among}
use Rattle.fx_walk.specs.KnownNames.{IsKnown}
use Rattle.fx_config.specs.declared.cache.Cache.{Cache}
use Rattle.fx_config.specs.declared.collecting_process.CollectingProcess.{CollectingProcess}
use Rattle.fx_topology.specs.declared.network_device.NetworkDevice.{NetworkDevice}
use Rattle.fx_plan.specs.Labels.{Label, cache_labels, collecting_labels, device_labels, is_label, place}
use Rattle.fx_plan.proofs.Resolution.{found_within, named_there}

-- where none of the first fits, what fits comes behind them
place_behind : {X : Type 0} (p : X → Bool) (xs ys : List X) → list_any p xs ≡ false → position_or_len p (xs ++ ys)
    ≡ length xs + position_or_len p ys
place_behind p [] ys none = omega arith
place_behind p (x ∷ xs) ys none =
    let parts = or_parts (p x) (list_any p xs) none in
    rw (parts.0, place_behind p xs ys parts.1) (omega arith)

-- ---- collecting processes, whose names differ within a device

none_of_device : (own device wanted : List ℕ) (processes : List CollectingProcess) → bytes_eq own device ≡ false
    → list_any (is_label device wanted) (device_labels (λ p. p.name) own processes) ≡ false
none_of_device own device wanted [] other = refl
none_of_device own device wanted (p ∷ ps) other = rw (other, none_of_device own device wanted ps other) refl

none_of_devices : (devices : List NetworkDevice) (device wanted : List ℕ) → is_among (map (λ x. x.name) devices) device
    ≡ false → list_any (is_label device wanted) (collecting_labels devices) ≡ false
none_of_devices [] device wanted new = refl
none_of_devices (x ∷ xs) device wanted new =
    let parts = or_parts (bytes_eq x.name device) (is_among (map (λ x. x.name) xs) device) new in
    let here = device_labels (λ (p : CollectingProcess). p.name) x.name x.config.collecting_processes in
    list_any-append (is_label device wanted) here (collecting_labels xs)
    ∙ or_from (list_any (is_label device wanted) here) (list_any (is_label device wanted) (collecting_labels xs))
    (none_of_device x.name device wanted x.config.collecting_processes parts.0)
    (none_of_devices xs device wanted parts.1)

place_within : (device : List ℕ) (early late : List CollectingProcess) (p : CollectingProcess) (others : List Label)
    → is_among (map (λ p. p.name) early) p.name ≡ false
    → position_or_len (is_label device p.name) (device_labels (λ p. p.name) device (early ++ p ∷ late) ++ others)
    ≡ length early
place_within device [] late p others new =
    rw ((bytes_eq-Decides device device).1 refl, (bytes_eq-Decides p.name p.name).1 refl) refl
place_within device (e ∷ early) late p others new =
    let parts = or_parts (bytes_eq e.name p.name) (is_among (map (λ p. p.name) early) p.name) new in
    rw ((bytes_eq-Decides device device).1 refl, parts.0, place_within device early late p others parts.1) (omega arith)

pub process_place : (front xs : List NetworkDevice) (x : NetworkDevice) (early late : List CollectingProcess)
    (p : CollectingProcess) → x.config.collecting_processes ≡ early ++ p ∷ late
    → is_among (map (λ x. x.name) front) x.name ≡ false → is_among (map (λ p. p.name) early) p.name ≡ false
    → place (collecting_labels (front ++ x ∷ xs)) x.name p.name ≡ length (collecting_labels front) + length early
process_place front xs x early late p are new_device new_name =
    let labels_of : NetworkDevice → List Label =
    λ x. device_labels (λ (p : CollectingProcess). p.name) x.name x.config.collecting_processes in
    ap (position_or_len (is_label x.name p.name)) (flat_map-append labels_of front (x ∷ xs))
    ∙ (place_behind (is_label x.name p.name) (collecting_labels front) (collecting_labels (x ∷ xs))
    (none_of_devices front x.name p.name new_device)
    ∙ ap (λ n. length (collecting_labels front) + n)
    (rw are (place_within x.name early late p (collecting_labels xs) new_name)))

-- ---- caches

-- the place of a name that stands for one of these
pub place_known : (names : List (List ℕ)) (name : List ℕ) → IsKnown names name → (k : ℕ) × (k < length names)
    × (get_or names k [] ≡ name)
place_known names name known = by (position (λ n. bytes_eq n name) names) refl known
  where
    by : (o : Option ℕ) → position (λ n. bytes_eq n name) names ≡ o → is_some o ≡ true → (k : ℕ) × (k < length names)
        × (get_or names k [] ≡ name)
    by None e h = absurd cc
    by (Some k) e h = let at = position-Some (λ n. bytes_eq n name) names k [] e in
        (k, at.0, (bytes_eq-Decides (get_or names k []) name).0 at.1)

pub cache_within : (front xs : List NetworkDevice) (x : NetworkDevice) (name : List ℕ)
    → is_among (map (λ c. c.name) x.config.caches) name ≡ true → place (cache_labels (front ++ x ∷ xs)) x.name name
    < length (cache_labels (front ++ x ∷ xs))
cache_within front xs x name among =
    let labels_of : NetworkDevice → List Label = λ x. device_labels (λ (c : Cache). c.name) x.name x.config.caches in
    let fits = is_label x.name name in
    let here : list_any fits (labels_of x) ≡ true =
    named_there (λ (c : Cache). c.name) x.name name x.name x.config.caches ((bytes_eq-Decides x.name x.name).1 refl)
    among in
    let some : list_any fits (cache_labels (x ∷ xs)) ≡ true = list_any-append fits (labels_of x) (cache_labels xs)
    ∙ or_left (list_any fits (labels_of x)) (list_any fits (cache_labels xs)) here in
    found_within fits (cache_labels (front ++ x ∷ xs))
    (ap (list_any fits) (flat_map-append labels_of front (x ∷ xs))
    ∙ (list_any-append fits (cache_labels front) (cache_labels (x ∷ xs))
    ∙ or_right (list_any fits (cache_labels front)) (list_any fits (cache_labels (x ∷ xs))) some))
