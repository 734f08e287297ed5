-- What a join answers, and what it prints.
use Rattle.std.specs.Prelude.{◌≡◌, ◌⊎◌, ℕ, suc, ◌<◌, ◌≤◌, List, [], ◌∷◌, ◌++◌, codes, decimal, length, Option, Some, None}
use Rattle.fx_base.specs.declared.fault.Fault.{Fault}
use Rattle.fx_base.specs.Refusals.{schedule_or_bundle}
use Rattle.fx_machine.specs.Claim.{ExactlyOnce, OnceModulo}
use Rattle.fx_tables.specs.Classes.{Class}
use Rattle.fx_tables.specs.Network.{Net}
use Rattle.fx_topology.specs.declared.network.NetworkDocument.{NetworkDocument}
use Rattle.fx_plan.specs.Cycles.{IsTextPlace}
use Rattle.fx_plan.specs.Tables.{net_of}
use Rattle.fx_parts.specs.Joins.{Joined}
use Rattle.fx_checker.specs.Checks.{no_line, yes_line}
use Rattle.fx_checker.specs.declared.answer.Answer.{Answer}
use Rattle.fx_checker.specs.declared.answer.Answer.TheVariants.{Yes, No, Unknown}
use Rattle.fx_join.specs.PartChecks.{IsAtPart, IsEndlessPart, IsPartText, IsWrongPart}
use Rattle.fx_join.specs.PartTexts.{IsFollowedBy, IsFollowedByNone, IsReadTo, PartText}
use Rattle.fx_base.specs.Refusals.{class_not_covered, part_refused}
use Rattle.fx_join.specs.Wholes.{IsRefusedByWhole, IsWholeNetwork, IsWholeTraffic}

-- ---- the parts of a text

-- the octets are those of certified parts of the whole
abbrev pub IsAllParts : Net → List ℕ → Type 0
IsAllParts whole octets = (parts : List PartText) × IsReadTo (IsPartText whole) octets parts []

-- the part after some certified parts of the whole is refused
abbrev pub IsRefusedIn : Net → List ℕ → Fault → Type 0
IsRefusedIn whole octets e =
    (parts : List PartText) × (part : PartText) × IsFollowedBy (IsPartText whole) parts part octets
    × IsWrongPart part (suc (length parts)) e

-- no part is where one is to begin, after some certified parts of the whole
abbrev pub IsNoPart : Net → List ℕ → Fault → Type 0
IsNoPart whole octets e =
    (parts : List PartText) × IsFollowedByNone (IsPartText whole) parts octets
    × IsAtPart schedule_or_bundle (suc (length parts)) e

-- a text of the part after some certified parts of the whole is too long
abbrev pub IsEndless : Net → List ℕ → Fault → Type 0
IsEndless whole octets e =
    (parts : List PartText) × (part : PartText) × IsFollowedBy (IsPartText whole) parts part octets
    × IsEndlessPart part e

abbrev pub IsUnread : Net → List ℕ → Fault → Type 0
IsUnread whole octets e = IsNoPart whole octets e ⊎ IsEndless whole octets e

-- ---- joins

-- a part more is joined: nothing changes but the marks of classes
pub record JoinsMore (old new : Joined) : Type 0 where
  pub whole : new.whole ≡ old.whole
  pub classes : new.classes ≡ old.classes
  pub marks : length new.covered ≡ length old.covered

-- ---- answers

-- every complete run of the whole counts each packet of its classes exactly once, and also once modulo 2 to the 64,
-- however large the sums are
pub record IsCounted (whole : Net) (classes : List Class) : Type 0 where
  pub once : ExactlyOnce whole classes
  pub modulo : OnceModulo whole classes

-- the octets are those of certified parts, and each packet is counted exactly once
pub record IsYes (whole : Net) (classes : List Class) (octets text : List ℕ) : Type 0 where
  pub counted : IsCounted whole classes
  pub all_parts : IsAllParts whole octets
  pub text_is : text ≡ yes_line

-- the refusal at a class, by its index, counted from 0
pub record IsClassAt (classes : List Class) (e : Fault) : Type 0 where
  pub index : ℕ
  pub is_class : index < length classes
  pub number : e.number ≡ class_not_covered
  pub place : IsTextPlace e.place (codes "/classes/" ++ decimal index)

-- the octets are those of certified parts, and a class is refused
abbrev pub IsUncovered : Net → List Class → List ℕ → Fault → Type 0
IsUncovered whole classes octets e = IsAllParts whole octets × IsClassAt classes e

-- a part is refused, or no part covers a class
abbrev pub IsWrong : Net → List Class → List ℕ → Fault → Type 0
IsWrong whole classes octets e = IsRefusedIn whole octets e ⊎ IsUncovered whole classes octets e

pub record IsNo (whole : Net) (classes : List Class) (octets text : List ℕ) : Type 0 where
  pub fault : Fault
  pub wrong : IsWrong whole classes octets fault
  pub text_is : text ≡ no_line fault

-- the answer for the octets of parts of this whole, and the text that is printed
abbrev pub IsAnswered : Net → List Class → List ℕ → Answer → List ℕ → Type 0
IsAnswered whole classes octets Yes text = IsYes whole classes octets text
IsAnswered whole classes octets No text = IsNo whole classes octets text
IsAnswered whole classes octets Unknown text = ⊥

-- ---- a join of octets

-- the predicate holds for the network and the classes that the documents of the whole declare
pub record InWhole (P : Net → List Class → Type 0) (network_octets traffic_octets : List ℕ) : Type 0 where
  pub network : NetworkDocument
  pub classes : List Class
  pub network_is : IsWholeNetwork network_octets network
  pub traffic_is : IsWholeTraffic network traffic_octets classes
  pub holds : P (net_of network) classes

abbrev pub IsJoined : List ℕ → List ℕ → List ℕ → Answer → List ℕ → Type 0
IsJoined network_octets traffic_octets octets answer text =
    InWhole (λ whole classes. IsAnswered whole classes octets answer text) network_octets traffic_octets

-- the first refusal of a join that isn't an answer: that of the documents of the whole, otherwise that of the parts
abbrev pub IsRefusedJoin : List ℕ → List ℕ → List ℕ → Fault → Type 0
IsRefusedJoin network_octets traffic_octets octets e =
    IsRefusedByWhole network_octets traffic_octets e
    ⊎ InWhole (λ whole classes. IsUnread whole octets e) network_octets traffic_octets

-- a join prints `yes` or `no`, according to its answer; a refusal has one of three numbers
abbrev pub IsJoinText : Answer → List ℕ → Type 0
IsJoinText Yes text = text ≡ yes_line
IsJoinText No text = (e : Fault) × (part_refused ≤ e.number) × (e.number ≤ class_not_covered) × (text ≡ no_line e)
IsJoinText Unknown text = ⊥
