-- How collecting processes are identified by numbers, and the text that lists the stuck ones.
use Rattle.std.specs.Prelude.{◌≡◌, ℕ, ◌+◌, List, [], ◌∷◌, ◌++◌, length, map, decimal, string_bytes, flat_map}
use Rattle.std.specs.List.{range_with_len}
use Rattle.fx_base.specs.declared.fault.Place.{Place}
use Rattle.fx_base.specs.declared.fault.Place.TheVariants as places
use Rattle.fx_tables.specs.Network.{at_places}
use Rattle.fx_plan.specs.declared.cycle.ProcessNumber.{ProcessNumber}
use Rattle.fx_topology.specs.declared.network_device.NetworkDevice.{NetworkDevice}

-- the processes of the device with this number
abbrev pub numbers_on : ℕ → ℕ → List ProcessNumber
numbers_on device count = map (λ n. record { device = device; process = n + 1 }) (range_with_len 0 count)

-- the processes of devices that are numbered consecutively, from this number on
abbrev pub numbers_from : ℕ → List NetworkDevice → List ProcessNumber
numbers_from n [] = []
numbers_from n (x ∷ xs) = numbers_on n (length x.config.collecting_processes) ++ numbers_from (n + 1) xs

-- all processes in document order; devices, and the processes of a device, are counted from 1
abbrev pub process_numbers : List NetworkDevice → List ProcessNumber
process_numbers devices = numbers_from 1 devices

-- `1.2` is the second process of the first device
abbrev pub number_text : ProcessNumber → List ℕ
number_text n = decimal n.device ++ 46 ∷ decimal n.process

-- the numbers, separated by single spaces
abbrev pub numbers_text : List ProcessNumber → List ℕ
numbers_text [] = []
numbers_text (n ∷ ns) = number_text n ++ flat_map (λ m. 32 ∷ number_text m) ns

abbrev pub stuck_text : List NetworkDevice → List ℕ → List ℕ
stuck_text devices stuck = numbers_text (at_places (process_numbers devices) stuck)

abbrev pub IsTextPlace : Place → List ℕ → Type 0
IsTextPlace (places.Text s) text = string_bytes s ≡ text
IsTextPlace places.None text = ⊥
IsTextPlace (places.Line n) text = ⊥
IsTextPlace (places.Octet n) text = ⊥
