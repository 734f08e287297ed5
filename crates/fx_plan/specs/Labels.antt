-- How the parts of a network's devices are named: by the device and by their own name.
use Rattle.std.specs.Prelude.{◌≡◌, ℕ, ◌<◌, ◌≤◌, List, [], ◌∷◌, length, Bool, ◌&&◌, map, slice_index_or}
use Rattle.std.specs.List.{flat_map, position_or_len}
use Rattle.std.specs.Str.{bytes_eq}
use Rattle.fx_topology.specs.declared.network_device.NetworkDevice.{NetworkDevice}

pub record Label : Type 0 where
  pub device : List ℕ
  pub name : List ℕ

-- the labels of the parts of one device, and of all devices in document order
abbrev pub device_labels : {X : Type 0} → (X → List ℕ) → List ℕ → List X → List Label
device_labels name device things = map (λ thing. record { device = device; name = name thing }) things

abbrev pub labels_of : {X : Type 0} → (NetworkDevice → List X) → (X → List ℕ) → List NetworkDevice → List Label
labels_of things name devices = flat_map (λ x. device_labels name x.name (things x)) devices

abbrev pub exporting_labels : List NetworkDevice → List Label
exporting_labels = labels_of (λ x. x.config.exporting_processes) (λ e. e.name)

abbrev pub cache_labels : List NetworkDevice → List Label
cache_labels = labels_of (λ x. x.config.caches) (λ c. c.name)

abbrev pub collecting_labels : List NetworkDevice → List Label
collecting_labels = labels_of (λ x. x.config.collecting_processes) (λ p. p.name)

abbrev pub is_label : List ℕ → List ℕ → Label → Bool
is_label device name label = bytes_eq label.device device && bytes_eq label.name name

-- the index of the table entry with this label; the length of the table if there is none
abbrev pub place : List Label → List ℕ → List ℕ → ℕ
place labels device name = position_or_len (is_label device name) labels

-- ---- groups

-- consecutive labels of one device, up to an end
pub record Group : Type 0 where
  pub device : List ℕ
  pub start : ℕ
  pub end : ℕ

abbrev pub AreOfDevice : Group → List Label → Type 0
AreOfDevice group labels = (k : ℕ) (d : Label) → group.start ≤ k → k < group.end → (slice_index_or labels k d).device
    ≡ group.device

-- labels fall into consecutive groups, from this index up to an end
abbrev pub AreGrouped : ℕ → List Label → List Group → ℕ → Type 0
AreGrouped from labels [] end = from ≡ end
AreGrouped from labels (group ∷ groups) end =
    (group.start ≡ from) × (from ≤ group.end) × (group.end ≤ length labels) × AreOfDevice group labels
    × AreGrouped group.end labels groups end
