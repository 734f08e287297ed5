-- The members of an object that was built member by member.
use Rattle.std.proofs.Common.{◌≡◌, ◌∙◌, ℕ, true, false, List, Option, Some, None, ap, refl, sym, subst, codes, true≢false}
use Rattle.std.specs.Prelude.{IfOk, IfSome, Result, Ok, Err, is_some, unwrap_or}
use Rattle.std.specs.Str.{bytes_eq}
use Rattle.std.specs.declared.alloc.AllocError.{AllocError}
use Rattle.std.proofs.lemmas.Slice.Eq.{bytes_eq-Decides}
use Rattle.serde_json.specs.Data.{Data, Members, number, object, string, unsigned}
use Rattle.serde_json.specs.Find.{get_member}
use Rattle.serde_json.specs.View.{view}
use Rattle.serde_json.specs.declared.value.Value.{Value}
use Rattle.serde_json.proofs.Views.{get_member-put, get_member-put_other}
use Rattle.fx_base.specs.declared.fault.Place.{Place}
use Rattle.fx_json_answers.specs.Answers.{IsAnswerData, number_data, place_data, text_data}
use Rattle.fx_json_answers.specs.Members.{IsAdded, IsView}

pub if_ok : {A E : Type 0} (r : Result A E) (P Q : A → Type 0) → ((a : A) → P a → Q a) → IfOk r P → IfOk r Q
if_ok (Ok a) P Q f h = f a h
if_ok (Err e) P Q f h = tt

at_some : {A : Type 0} (o : Option A) (a : A) (P : A → Type 0) → o ≡ Some a → IfSome o P → P a
at_some None a P is holds = absurd (true≢false (sym (ap (λ (x : Option _). is_some x) is)))
at_some (Some b) a P is holds = subst P (ap (λ (x : Option _). unwrap_or x b) is) holds

-- the data of a value that was made
viewed : (made : Result Value AllocError) (d wanted : Data) → IsView made d → IfOk made (λ v. view v ≡ wanted) → d
    ≡ wanted
viewed made d wanted (v, is, seen) meant = seen
    ∙ subst (λ (r : Result Value AllocError). IfOk r (λ x. view x ≡ wanted)) is meant

-- the member that was added last
last_member : (key : List ℕ) (wanted : Data) (Is : Data → Type 0) (old : Option Members) (new : Members)
    (a : IsAdded key Is old new) → a.value ≡ wanted → get_member key new ≡ Some wanted
last_member key wanted Is old new a is = ap (λ (ms : Members). get_member key ms) a.new_is
    ∙ get_member-put key a.value a.before ∙ ap (λ (d : Data). Some d) is

-- the members that were there keep their values
earlier_member : (other key : List ℕ) (wanted : Data) (Is : Data → Type 0) (old : Option Members) (new : Members)
    (a : IsAdded key Is old new) → bytes_eq other key ≡ false
    → get_member other a.before ≡ Some wanted → get_member other new ≡ Some wanted
earlier_member other key wanted Is old new a differ found =
    ap (λ (ms : Members). get_member other ms) a.new_is
    ∙ get_member-put_other other key a.value a.before
    (λ same. true≢false (sym ((bytes_eq-Decides other key).1 same) ∙ differ)) ∙ found

-- the members of an answer, which were added last, in this order
pub answer_members : (command answer output : List ℕ) (status : ℕ) (refusal : Option ℕ) (place : Place)
    (numbered placed printed : Result Value AllocError) (b1 b2 b3 b4 b5 b6 b7 : Option Members) (members : Members)
    → IfSome b2 (IsAdded (codes "command") (λ d. d ≡ string command) b1)
    → IfSome b3 (IsAdded (codes "answer") (λ d. d ≡ string answer) b2)
    → IfSome b4 (IsAdded (codes "status") (λ d. d ≡ number (unsigned status)) b3)
    → IfSome b5 (IsAdded (codes "number") (IsView numbered) b4)
    → IfSome b6 (IsAdded (codes "place") (IsView placed) b5)
    → IfSome b7 (IsAdded (codes "output") (IsView printed) b6)
    → IfOk numbered (λ v. view v ≡ number_data refusal) → IfOk placed (λ v. view v ≡ place_data place)
    → IfOk printed (λ v. view v ≡ text_data output)
    → b7 ≡ Some members → IsAnswerData command answer status refusal place output (object members)
answer_members command answer output status refusal place numbered placed printed b1 b2 b3 b4 b5 b6 b7 members h2 h3 h4
    h5 h6 h7 number_means place_means output_means is =
    let a7 = at_some b7 members (IsAdded (codes "output") (IsView printed) b6) is h7 in
    let a6 = at_some b6 a7.before (IsAdded (codes "place") (IsView placed) b5) a7.old_is h6 in
    let a5 = at_some b5 a6.before (IsAdded (codes "number") (IsView numbered) b4) a6.old_is h5 in
    let a4 = at_some b4 a5.before (IsAdded (codes "status") (λ d. d ≡ number (unsigned status)) b3) a5.old_is h4 in
    let a3 = at_some b3 a4.before (IsAdded (codes "answer") (λ d. d ≡ string answer) b2) a4.old_is h3 in
    let a2 = at_some b2 a3.before (IsAdded (codes "command") (λ d. d ≡ string command) b1) a3.old_is h2 in
    let output_here = last_member (codes "output") (text_data output) (IsView printed) b6 members a7
    (viewed printed a7.value (text_data output) a7.value_is output_means) in
    let place_here = last_member (codes "place") (place_data place) (IsView placed) b5 a7.before a6
    (viewed placed a6.value (place_data place) a6.value_is place_means) in
    let number_here = last_member (codes "number") (number_data refusal) (IsView numbered) b4 a6.before a5
    (viewed numbered a5.value (number_data refusal) a5.value_is number_means) in
    let status_here = last_member (codes "status") (number (unsigned status)) (λ d. d ≡ number (unsigned status)) b3
    a5.before a4 a4.value_is in
    let answer_here = last_member (codes "answer") (string answer) (λ d. d ≡ string answer) b2 a4.before a3 a3.value_is
    in
    let command_here = last_member (codes "command") (string command) (λ d. d ≡ string command) b1 a3.before a2
    a2.value_is in
    let after_output = λ (key : List ℕ) (wanted : Data) (differ : bytes_eq key (codes "output") ≡ false)
    (found : get_member key a7.before ≡ Some wanted). earlier_member key (codes "output") wanted (IsView printed) b6
    members a7 differ found in
    let after_place = λ (key : List ℕ) (wanted : Data) (differ : bytes_eq key (codes "place") ≡ false)
    (found : get_member key a6.before ≡ Some wanted). earlier_member key (codes "place") wanted (IsView placed) b5
    a7.before a6 differ found in
    let after_number = λ (key : List ℕ) (wanted : Data) (differ : bytes_eq key (codes "number") ≡ false)
    (found : get_member key a5.before ≡ Some wanted). earlier_member key (codes "number") wanted (IsView numbered)
    b4 a6.before a5 differ found in
    let after_status = λ (key : List ℕ) (wanted : Data) (differ : bytes_eq key (codes "status") ≡ false)
    (found : get_member key a4.before ≡ Some wanted). earlier_member key (codes "status") wanted
    (λ d. d ≡ number (unsigned status)) b3 a5.before a4 differ found in
    let after_answer = λ (key : List ℕ) (wanted : Data) (differ : bytes_eq key (codes "answer") ≡ false)
    (found : get_member key a3.before ≡ Some wanted). earlier_member key (codes "answer") wanted
    (λ d. d ≡ string answer) b2 a4.before a3 differ found in
    record {
      output_is = output_here;
      place_is = after_output (codes "place") (place_data place) refl place_here;
      number_is = after_output (codes "number") (number_data refusal) refl
          (after_place (codes "number") (number_data refusal) refl number_here);
      status_is = after_output (codes "status") (number (unsigned status)) refl
          (after_place (codes "status") (number (unsigned status)) refl
          (after_number (codes "status") (number (unsigned status)) refl status_here));
      answer_is = after_output (codes "answer") (string answer) refl
          (after_place (codes "answer") (string answer) refl
          (after_number (codes "answer") (string answer) refl
          (after_status (codes "answer") (string answer) refl answer_here)));
      command_is = after_output (codes "command") (string command) refl
          (after_place (codes "command") (string command) refl
          (after_number (codes "command") (string command) refl
          (after_status (codes "command") (string command) refl
          (after_answer (codes "command") (string command) refl command_here))));
    }
