-- Certificates of parts say of the whole that each packet is counted once.
use Rattle.std.proofs.Common.{◌≡◌, ℕ, zero, suc, true, List, Some, slice_get, sym, ap, ◌∙◌}
use Rattle.fx_boxes.specs.Boxes.{holds}
use Rattle.fx_tables.specs.Classes.{Class}
use Rattle.fx_tables.specs.Network.{Net}
use Rattle.fx_tables.specs.Ranks.{IsNetwork}
use Rattle.fx_machine.specs.Claim.{ExactlyOnce, OnceModulo}
use Rattle.fx_machine.specs.States.{opening}
use Rattle.fx_machine.proofs.RunsAreMoves.{steps_of}
use Rattle.fx_leaf.specs.Fates.{wanted_fate}
use Rattle.fx_leaf.specs.Certificates.{AllAsWanted}
use Rattle.fx_leaf.proofs.Headline.{counts_each_once, counts_each_modulo}
use Rattle.fx_leaf.proofs.Trees.{sound_wanted}
use Rattle.fx_parts.specs.Parts.{IsPart, IsCertifiedAlone, IsCovered, AllCertifiedParts, AllCovered, Part}
use Rattle.fx_parts.proofs.FatesOfParts.{packet_fates, sees_takes}

module _ (whole : Net) (is_net : IsNetwork whole) (classes : List Class) (parts : List Part)
    (certified : AllCertifiedParts whole parts) (covered : AllCovered whole classes parts) where
  pub parts_wanted : AllAsWanted whole classes
  parts_wanted c m class path fields at_class at_path h =
      let found = covered c m class path at_class at_path in
      let part = found.1 in
      let covers = found.3 in
      let of = certified found.0 part found.2 in
      let certificate = of.certified.1 in
      let inner : holds covers.inside.region fields ≡ true = ap (λ region. holds region fields) covers.region ∙ h in
      let wanted = sound_wanted part.net part.classes certificate.trees certificate.sound covers.class_number
      covers.path_number covers.inside covers.inner fields covers.is_class covers.is_path inner in
      sym (packet_fates part.net whole part.places of.within of.network.ranked is_net.ranked class.region covers.inner
      path covers.takes fields h) ∙ wanted ∙ ap wanted_fate covers.exempt

pub parts_once : (whole : Net) (classes : List Class) (parts : List Part) → IsNetwork whole
    → AllCertifiedParts whole parts → AllCovered whole classes parts → ExactlyOnce whole classes
parts_once whole classes parts is_net certified covered packets of fit final ran complete =
    let steps = steps_of whole classes packets (opening whole classes packets) final ran in
    counts_each_once whole is_net classes (parts_wanted whole is_net classes parts certified covered) packets of steps.0
    final steps.1 complete fit

pub parts_modulo : (whole : Net) (classes : List Class) (parts : List Part) → IsNetwork whole
    → AllCertifiedParts whole parts → AllCovered whole classes parts → OnceModulo whole classes
parts_modulo whole classes parts is_net certified covered packets of final ran complete =
    let steps = steps_of whole classes packets (opening whole classes packets) final ran in
    counts_each_modulo whole is_net classes (parts_wanted whole is_net classes parts certified covered) packets of
    steps.0 final steps.1 complete

-- ---- by classes

pub covered_if : (whole : Net) (classes : List Class) (parts : List Part)
    → ((k : ℕ) (class : Class) → slice_get classes k ≡ Some class → IsCovered whole class parts)
    → AllCovered whole classes parts
covered_if whole classes parts all zero m class path e f = absurd cc
covered_if whole classes parts all (suc k) zero class path e f = absurd cc
covered_if whole classes parts all (suc k) (suc j) class path e f =
    let s = all k class e in
    let found = s.alike.paths.same j path f in (
      s.place,
      s.part,
      s.is_part,
      record {
        class_number = s.number;
        path_number = suc j;
        inside = s.inside;
        inner = found.0;
        is_class = s.is_class;
        is_path = found.1;
        region = s.alike.region;
        exempt = s.alike.exempt;
        takes = sees_takes s.part.net whole s.part.places class.region found.0 path found.2;
      },
    )

pub certified_if : (whole : Net) (parts : List Part)
    → ((n : ℕ) (part : Part) → slice_get parts n ≡ Some part → IsCertifiedAlone part)
    → ((n : ℕ) (part : Part) → slice_get parts n ≡ Some part → IsPart part.net whole part.places)
    → AllCertifiedParts whole parts
certified_if whole parts alone within n part e =
    record { network = (alone n part e).network; within = within n part e; certified = (alone n part e).certified }

pub same_there : {A : Type 0} (x y : A) → Some x ≡ Some y → x ≡ y
same_there x y e = cc

abbrev pub EachCovered : Net → List Part → List Class → Type 0
EachCovered whole parts classes = (k : ℕ) (class : Class) → slice_get classes k ≡ Some class
    → IsCovered whole class parts
