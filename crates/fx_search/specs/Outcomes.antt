-- The outcome of a search, with its reasons.
use Rattle.std.specs.Prelude.{◌≡◌, ℕ, List, None}
use Rattle.fx_base.specs.Lines.{text_lines}
use Rattle.fx_machine.specs.Claim.{ExactlyOnce, OnceModulo}
use Rattle.fx_tables.specs.Classes.{Class}
use Rattle.fx_tables.specs.Network.{Net}
use Rattle.fx_leaf.specs.Judgements.{IsJudged}
use Rattle.fx_traffic.specs.Targets.{targets_of}
use Rattle.fx_check.specs.Certificates.{IsCertificate}
use Rattle.fx_refute.specs.Refutations.{Refutes}
use Rattle.fx_search.specs.Found.{IsFound, certificate_text}
use Rattle.fx_search.specs.Fronts.{RegionAhead, IsTooLargeAt, most_lines}
use Rattle.fx_search.specs.Growing.{Lies, leaf_item, least_packet}
use Rattle.fx_search.specs.declared.outcome.Outcome.{Outcome}
use Rattle.fx_search.specs.declared.outcome.Outcome.TheVariants as outcome
use Rattle.fx_search.specs.declared.outcome.ReachedLimit.{ReachedLimit}
use Rattle.fx_search.specs.declared.outcome.RefutedRegion.{RefutedRegion}

-- the region belongs to the class and path with these numbers, its packets have the judged fate, for which there is
-- no leaf of the kind that the class requires, and the refutation is of the region's least packet
pub record IsRefutedRegion (net : Net) (classes : List Class) (r : RefutedRegion) : Type 0 where
  pub ahead : RegionAhead
  pub lies : Lies classes ahead
  pub class_is : r.class ≡ ahead.target.class
  pub path_is : r.path ≡ ahead.target.path
  pub region_is : r.region ≡ ahead.region
  pub judged : IsJudged net ahead.target.crossings ahead.region r.judgement
  pub unwanted : leaf_item r.judgement ahead.target.exempt ≡ None
  pub packet_is : r.refutation.packet ≡ least_packet ahead

-- at this region of the class and path with these numbers, what is needed is too large because of this limit
pub record IsReachedLimit (net : Net) (classes : List Class) (most : ℕ) (r : ReachedLimit) : Type 0 where
  pub ahead : RegionAhead
  pub class_is : r.class ≡ ahead.target.class
  pub path_is : r.path ≡ ahead.target.path
  pub region_is : r.region ≡ ahead.region
  pub large : IsTooLargeAt net (targets_of classes) most ahead r.limit

-- a certificate whose splits are at bounds, and whose text the checker accepts; a run that refutes, and its region; or
-- the limit that the search reached
abbrev pub IsOutcome : Net → List Class → ℕ → Outcome → Type 0
IsOutcome net classes limit (outcome.Certificate items) = IsFound net classes limit items.items
    × IsCertificate net classes (text_lines (certificate_text items.items))
IsOutcome net classes limit (outcome.Refuted r) = Refutes net classes r.refutation × IsRefutedRegion net classes r
IsOutcome net classes limit (outcome.TooLarge r) = IsReachedLimit net classes (most_lines limit) r

-- for a certificate each packet is counted exactly once, and those of exempt classes never, also modulo 2 to the 64;
-- for a refutation this isn't the case
abbrev pub Settles : Net → List Class → Outcome → Type 0
Settles net classes (outcome.Certificate items) = ExactlyOnce net classes × OnceModulo net classes
Settles net classes (outcome.Refuted r) = ExactlyOnce net classes → ⊥
Settles net classes (outcome.TooLarge r) = Unit {0}
