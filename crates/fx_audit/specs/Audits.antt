-- What an audit answers, and what it prints.
use Rattle.std.specs.Prelude.{◌≡◌, ℕ, List, [], ◌∷◌, ◌++◌, codes}
use Rattle.fx_base.specs.Lines.{text_lines}
use Rattle.fx_cert.specs.declared.item.Item.{Item}
use Rattle.fx_machine.specs.Claim.{ExactlyOnce, OnceModulo}
use Rattle.fx_tables.specs.Classes.{Class}
use Rattle.fx_topology.specs.declared.network.NetworkDocument.{NetworkDocument}
use Rattle.fx_plan.specs.Tables.{net_of}
use Rattle.fx_check.specs.Certificates.{IsCertificate}
use Rattle.fx_run_text.specs.declared.text_version.TextVersion.TheVariants.{Two}
use Rattle.fx_refute.specs.RefutationText.{refutation_text}
use Rattle.fx_refute.specs.Refutations.{Refutation, Refutes}
use Rattle.fx_search.specs.Found.{IsFound, certificate_text}
use Rattle.fx_search.specs.Fronts.{IsTooLarge, most_lines}
use Rattle.fx_search.specs.declared.found.Found.{Found}
use Rattle.fx_search.specs.declared.found.Found.TheVariants as found
use Rattle.fx_traffic.specs.Targets.{targets_of}
use Rattle.fx_checker.specs.declared.answer.Answer.{Answer}
use Rattle.fx_checker.specs.declared.answer.Answer.TheVariants.{Yes, No, Unknown}

abbrev pub unknown_line : List ℕ
unknown_line = codes "unknown 601" ++ 10 ∷ []

-- the text is a certificate of at most `limit` split and leaf lines: each packet is counted exactly once, and also once
-- modulo 2 to the 64, however large the sums are
pub record IsCertified (network : NetworkDocument) (classes : List Class) (limit : ℕ) (text : List ℕ) : Type 0 where
  pub once : ExactlyOnce (net_of network) classes
  pub modulo : OnceModulo (net_of network) classes
  pub certificate : IsCertificate (net_of network) classes (text_lines text)
  pub items : List Item
  pub found : IsFound (net_of network) classes limit items
  pub text_is : text ≡ certificate_text items

-- the text is a refutation: not every complete run counts each packet exactly once
pub record IsRefutedBy (network : NetworkDocument) (classes : List Class) (text : List ℕ) : Type 0 where
  pub not_once : ExactlyOnce (net_of network) classes → ⊥
  pub refutation : Refutation
  pub refutes : Refutes (net_of network) classes refutation
  pub text_is : text ≡ refutation_text Two refutation

-- both a certificate within the limit and a refutation would be too large
pub record IsUnsettled (network : NetworkDocument) (classes : List Class) (limit : ℕ) (text : List ℕ) : Type 0 where
  pub too_large : IsTooLarge (net_of network) (targets_of classes) (most_lines limit)
  pub text_is : text ≡ unknown_line

-- the answer of an audit of this network and traffic, and the text that it prints
abbrev pub IsAuditedIn : NetworkDocument → List Class → ℕ → Answer → List ℕ → Type 0
IsAuditedIn network classes limit Yes text = IsCertified network classes limit text
IsAuditedIn network classes limit No text = IsRefutedBy network classes text
IsAuditedIn network classes limit Unknown text = IsUnsettled network classes limit text

-- the answer and the printed text for what a search found: yes for a certificate, no for a refutation
abbrev pub IsFoundText : Found → Answer → List ℕ → Type 0
IsFoundText (found.Certificate items) answer text = (answer ≡ Yes) × (text ≡ certificate_text items.items)
IsFoundText (found.Refutation r) answer text = (answer ≡ No) × (text ≡ refutation_text Two r)
