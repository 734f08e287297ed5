-- What the check of a part comes to.
use Rattle.std.specs.Prelude.{◌≡◌, ◌⊎◌, ℕ, ◌≤◌, ◌^◌, List, ◌++◌, codes, decimal, length}
use Rattle.fx_base.specs.declared.fault.Fault.{Fault}
use Rattle.fx_base.specs.declared.fault.Place.TheVariants as places
use Rattle.fx_base.specs.Fault.{fault_at, IsMemory}
use Rattle.fx_base.specs.Lines.{lines_in, text_lines}
use Rattle.fx_base.specs.Refusals.{failed_read, want_of_memory}
use Rattle.fx_tables.specs.Classes.{Class}
use Rattle.fx_tables.specs.Network.{Net}
use Rattle.fx_topology.specs.declared.network.NetworkDocument.{NetworkDocument}
use Rattle.fx_plan.specs.Cycles.{IsTextPlace}
use Rattle.fx_plan.specs.Tables.{net_of}
use Rattle.fx_check.specs.Certificates.{IsCertificate}
use Rattle.fx_parts.specs.Parts.{IsPart}
use Rattle.fx_checker.specs.Checks.{IsRefusedText}
use Rattle.fx_checker.specs.Documents.{IsNetworkDocument, IsRefusedByDocuments, IsTraffic}
use Rattle.fx_join.specs.PartTexts.{PartText}
use Rattle.fx_base.specs.Refusals.{not_a_part, part_refused}

-- the part's documents declare this network and these classes, and its certificate is one for them
pub record IsCertifiedAs (part : PartText) (network : NetworkDocument) (classes : List Class) : Type 0 where
  pub network_is : IsNetworkDocument part.network network
  pub traffic_is : IsTraffic network part.traffic classes
  pub certificate : IsCertificate (net_of network) classes (text_lines part.certificate)

-- the documents of a part are accepted, and its certificate is one for its classes in its network
abbrev pub IsCertifiedText : PartText → Type 0
IsCertifiedText part = (network : NetworkDocument) × (classes : List Class) × IsCertifiedAs part network classes

-- the network is a part of the whole, whose collecting processes have some places in it
abbrev pub IsSomewhereIn : Net → NetworkDocument → Type 0
IsSomewhereIn whole network = (places : List ℕ) × IsPart (net_of network) whole places

-- the part is certified, and its network is a part of the whole
abbrev pub IsPartText : Net → PartText → Type 0
IsPartText whole part =
    (network : NetworkDocument) × (classes : List Class) × IsCertifiedAs part network classes
    × IsSomewhereIn whole network

-- the first fault of a part: that of its documents, otherwise that of its certificate
abbrev pub IsRefusedPart : PartText → Fault → Type 0
IsRefusedPart part e =
    IsRefusedByDocuments part.network part.traffic e
    ⊎ ((network : NetworkDocument) × (classes : List Class) × IsNetworkDocument part.network network
    × IsTraffic network part.traffic classes × IsRefusedText network classes (lines_in part.certificate) e)

-- a text of the part is so long that 2 to the 32 calls don't read it to its end
abbrev pub IsEndlessPart : PartText → Fault → Type 0
IsEndlessPart part e =
    (e ≡ fault_at failed_read places.None) × ((2 ^ 32 ≤ length part.network)
    ⊎ ((2 ^ 32 ≤ length part.traffic) ⊎ (2 ^ 32 ≤ length part.certificate)))

-- why the check of a part fails
abbrev pub IsPartFault : PartText → Fault → Type 0
IsPartFault part e = IsMemory e ⊎ (IsEndlessPart part e ⊎ IsRefusedPart part e)

-- out of memory or a failed read, which no part is to blame for
pub record IsFailure (e : Fault) : Type 0 where
  pub nowhere : e.place ≡ places.None
  pub number : (e.number ≡ want_of_memory) ⊎ (e.number ≡ failed_read)

-- the fault has this number, at the part with this number, counted from 1
abbrev pub IsAtPart : ℕ → ℕ → Fault → Type 0
IsAtPart refusal number e = (e.number ≡ refusal) × IsTextPlace e.place (codes "part " ++ decimal number)

-- the refusal of the part with this number, which a check doesn't accept
abbrev pub IsRefusedAt : PartText → ℕ → Fault → Type 0
IsRefusedAt part number e = (inner : Fault) × IsRefusedPart part inner × IsAtPart part_refused number e

-- the refusal of the part with this number, which is certified, but isn't a part of the whole
abbrev pub IsForeignAt : PartText → ℕ → Fault → Type 0
IsForeignAt part number e = IsCertifiedText part × IsAtPart not_a_part number e

abbrev pub IsWrongPart : PartText → ℕ → Fault → Type 0
IsWrongPart part number e = IsRefusedAt part number e ⊎ IsForeignAt part number e
