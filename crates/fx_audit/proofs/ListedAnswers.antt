-- The numbers with which a certificate or a refutation is answered are listed.
use Rattle.std.proofs.Common.{◌≡◌, ◌≤◌, ◌<◌, ◌⊎◌, ◌+◌, ℕ, zero, suc, true, refl, sym, subst, arith, inl, inr}
use Rattle.fx_base.specs.Refusals.{is_refusal_number}
use Rattle.fx_base.specs.declared.fault.Fault.{Fault}
use Rattle.fx_checker.specs.Checks.{IsNoAnswer, MeansNo, memory, read_failed, too_long, write_failed}
use Rattle.fx_audit.specs.Confirms.{RefutesNothing}

-- each of so many numbers from one on
abbrev AllListed : ℕ → ℕ → Type 0
AllListed first zero = Unit {0}
AllListed first (suc count) = (is_refusal_number first ≡ true) × AllListed (suc first) count

at_first : (first number : ℕ) → number ≡ first ⊎ suc first ≤ number → is_refusal_number first ≡ true
    → (suc first ≤ number → is_refusal_number number ≡ true) → is_refusal_number number ≡ true
at_first first number (inl same) is later = subst (λ (n : ℕ). is_refusal_number n ≡ true) (sym same) is
at_first first number (inr past) is later = later past

either : (first number : ℕ) → first ≤ number → (number ≡ first) ⊎ (suc first ≤ number)
either first number from = grind (arith, from)

within : (first count number : ℕ) → AllListed first count → first ≤ number → number < first + count
    → is_refusal_number number ≡ true
within first zero number all from below = absurd (omega (arith, from, below))
within first (suc count) number all from below =
    at_first first number (either first number from) all.0
    (λ past. within (suc first) count number all.1 past (omega (arith, below)))

pub no_listed : (number : ℕ) → MeansNo number → is_refusal_number number ≡ true
no_listed number (from, to) =
    within 401 15 number (
      refl,
      (
        refl,
        (
          refl,
          (refl, (refl, (refl, (refl, (refl, (refl, (refl, (refl, (refl, (refl, (refl, (refl, tt)))))))))))),
        ),
      ),
    ) from
    (omega (arith, to))

pub nothing_refuted_listed : (number : ℕ) → RefutesNothing number → is_refusal_number number ≡ true
nothing_refuted_listed number (from, to) =
    within 501 5 number (refl, (refl, (refl, (refl, (refl, tt))))) from (omega (arith, to))

pub no_answer_listed : (e : Fault) → IsNoAnswer e → is_refusal_number e.number ≡ true
no_answer_listed e memory = refl
no_answer_listed e read_failed = refl
no_answer_listed e write_failed = refl
no_answer_listed e (too_long line) = refl
