-- How a search begins, and how it ends.
use Rattle.std.proofs.Common.{◌≡◌, ℕ, List, [], ◌∷◌, ◌++◌, map, refl, sym, ap, subst, ◌∙◌, arith, Some, None, reverse}
use Rattle.std.proofs.lemmas.List.{reverse-append}
use Rattle.fx_boxes.specs.Boxes.{Holds}
use Rattle.fx_boxes.proofs.Holding.{holds_if}
use Rattle.fx_cert.specs.declared.item.Item.{Item}
use Rattle.fx_cert.specs.declared.item.Item.TheVariants as item
use Rattle.fx_cert.specs.declared.item.Version.{Version}
use Rattle.fx_tables.specs.declared.packet.Packet.{Packet}
use Rattle.fx_tables.specs.declared.traffic.Crossing.{Crossing}
use Rattle.fx_tables.specs.Classes.{Class, IsOf, exempts, path}
use Rattle.fx_tables.specs.Network.{Net}
use Rattle.fx_base.specs.Entries.{entry_numbered}
use Rattle.fx_traffic.specs.Targets.{Target, targets_of}
use Rattle.fx_steps.specs.WrongRun.{HasNoRun, IsWrongRun}
use Rattle.fx_run_text.specs.declared.step.Step.{Step}
use Rattle.fx_refute.specs.Refutations.{Refutes}
use Rattle.fx_leaf.specs.declared.judgement.Judgement.{Judgement}
use Rattle.fx_search.specs.Fronts.{IsTooLarge, IsTooLargeAt, RegionAhead, SearchFront, root}
use Rattle.fx_search.specs.Fronts.SearchFront.{begins}
use Rattle.fx_search.specs.Fronts.IsTooLarge.{lines as too_many, depth as too_deep, steps as too_long}
use Rattle.fx_search.specs.Fronts.IsTooLargeAt.{at_lines, at_depth, at_steps}
use Rattle.fx_search.specs.Growing.{IsGrowing, IsStoppedAt, IsTarget, Lies, least_packet}
use Rattle.fx_search.specs.Outcomes.{IsRefutedRegion}
use Rattle.fx_search.specs.declared.outcome.Limit.{Limit}
use Rattle.fx_search.specs.declared.outcome.Limit.TheVariants as limits
use Rattle.fx_search.specs.declared.outcome.RefutedRegion.{RefutedRegion}
use Rattle.fx_search.specs.declared.stop.Why.TheVariants as why
use Rattle.fx_search.proofs.GrowingCertificate.{begun_first}
use Rattle.fx_search.proofs.AheadWithinTarget.{all_lie}
use Rattle.fx_search.proofs.ShortLines.{header_writable}

-- the last of the stack comes next
pub popped : (net : Net) (targets : List Target) (version : Version) (most : ℕ) (items : List Item) (lines : ℕ)
    (stack rest : List RegionAhead) (a : RegionAhead) → stack ≡ rest ++ a ∷ []
    → IsGrowing net targets version most items lines (reverse stack)
    → IsGrowing net targets version most items lines (a ∷ reverse rest)
popped net targets version most items lines stack rest a e g =
    subst (IsGrowing net targets version most items lines) (ap reverse e ∙ reverse-append rest (a ∷ [])) g

pub started : (net : Net) (targets : List Target) (version : Version) (most : ℕ) (items : List Item) (lines : ℕ)
    (ahead : List RegionAhead) → items ≡ item.Header version ∷ [] → lines ≡ 0 → ahead ≡ map root targets
    → IsGrowing net targets version most items lines ahead
started net targets version most items lines ahead is none all =
    rw (is, none, all) (record {
      front = begins;
      begun = begun_first net targets version;
      written =
          (header_writable version, tt);
      few = omega arith;
    })

-- ---- what lies in its target

path_of : (classes : List Class) (a : RegionAhead) → IsTarget classes a.target → path classes (least_packet a)
    ≡ a.target.crossings
path_of classes a t = rw (t.named, t.path_is) refl

exempt_of : (classes : List Class) (a : RegionAhead) → IsTarget classes a.target
    → exempts (entry_numbered classes a.target.class) ≡ a.target.exempt
exempt_of classes a t = rw t.named t.exempt_is

pub least_of_class : (classes : List Class) (a : RegionAhead) (p : Packet) → p ≡ least_packet a
    → Holds a.region p.fields → Lies classes a → IsOf p (entry_numbered classes p.class)
least_of_class classes a p is held lies =
    rw (is, lies.target.named) (
      rw lies.target.region_is
          (holds_if a.target.region a.region.low (lies.inside a.region.low
          (subst (λ (q : Packet). Holds a.region q.fields) is held))),
      λ none.
          absurd (let e : Some a.target.crossings ≡ None = sym lies.target.path_is ∙ none in cc),
    )

-- ---- why nothing is found

pub too_large : (net : Net) (targets : List Target) (most : ℕ) (a : RegionAhead) (l : Limit)
    → IsTooLargeAt net targets most a l → IsTooLarge net targets most
too_large net targets most a l (at_lines rest front why) = too_many a rest front why
too_large net targets most a l (at_depth rest n front deep cut) = too_deep a rest n front deep cut
too_large net targets most a l (at_steps rest n front uncut wrong none) = too_long a rest n front uncut wrong none

-- no run of the least packet is short enough
pub no_run_there : (net : Net) (classes : List Class) (most : ℕ) (a : RegionAhead) (j : Judgement) (p : Packet) → p
    ≡ least_packet a → IsStoppedAt net (targets_of classes) most a (why.Wrong j)
    → HasNoRun net p.fields (path classes p) (exempts (entry_numbered classes p.class))
    → IsTooLargeAt net (targets_of classes) most a limits.Steps
no_run_there net classes most a j p is (wrong, (rest, n, front)) none =
    let t = (all_lie net classes (a ∷ rest) n front).0.target in
    let here : HasNoRun net a.region.low (path classes (least_packet a))
    (exempts (entry_numbered classes a.target.class)) =
    subst (λ (q : Packet). HasNoRun net q.fields (path classes q) (exempts (entry_numbered classes q.class))) is
    none in
    at_steps rest n front wrong.0.0 wrong.0.1
    (subst (λ (cs : List Crossing). HasNoRun net a.region.low cs a.target.exempt) (path_of classes a t)
    (subst (HasNoRun net a.region.low (path classes (least_packet a))) (exempt_of classes a t) here))

pub lies_there : (net : Net) (classes : List Class) (a : RegionAhead) (rest : List RegionAhead) (n : ℕ)
    → SearchFront net (targets_of classes) (a ∷ rest) n → Lies classes a
lies_there net classes a rest n front = (all_lie net classes (a ∷ rest) n front).0

-- ---- what refutes

abbrev pub refuted_of : RegionAhead → Judgement → Packet → List Step → RefutedRegion
refuted_of a j p ss = record {
  refutation = record { packet = p; steps = ss };
  class = a.target.class;
  path =
      a.target.path;
  region = a.region;
  judgement = j;
}

pub refutes_there : (net : Net) (classes : List Class) (a : RegionAhead) (p : Packet) (steps : List Step) → p
    ≡ least_packet a → Holds a.region p.fields → Lies classes a → IsWrongRun net classes p steps
    → Refutes net classes (record { packet = p; steps = steps })
refutes_there net classes a p steps is held lies w =
    record {
      last = w.last;
      runs_to = record { of_class = least_of_class classes a p is held lies; runs = w.runs };
      complete = w.complete;
      wrong = w.wrong;
    }

-- the region of a run that refutes
pub refuted_there : (net : Net) (classes : List Class) (most : ℕ) (a : RegionAhead) (j : Judgement) (p : Packet)
    (steps : List Step) → p ≡ least_packet a → Holds a.region p.fields
    → IsStoppedAt net (targets_of classes) most a (why.Wrong j) → IsWrongRun net classes p steps
    → Refutes net classes (record { packet = p; steps = steps }) × IsRefutedRegion net classes (refuted_of a j p steps)
refuted_there net classes most a j p steps is held (wrong, (rest, n, front)) w =
    let lies = lies_there net classes a rest n front in (
      refutes_there net classes a p steps is held lies w,
      record {
        ahead = a;
        lies = lies;
        class_is = refl;
        path_is = refl;
        region_is = refl;
        judged = wrong.1;
        unwanted =
            wrong.2;
        packet_is = is;
      },
    )
