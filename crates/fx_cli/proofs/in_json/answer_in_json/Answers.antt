use Rattle.std.proofs.Common.{inl, inr, map, string_bytes}
use Rattle.fx_cli.proofs.CallOutputs.{too_short}
use Rattle.fx_cli.proofs.EndsInJson.{ends_in_json_as}
use Rattle.fx_cli.proofs.in_json.answer_in_json.Goals as goal

pub returns-in-Err-clause-call : goal.returns-in-Err-clause-call
returns-in-Err-clause-call g c = λ call names. elim c.in-Err.ensures.call [
  | inl memory ↦ inr (c.finish_arguments.ensures.memory memory)
  | inr none ↦ absurd (none call names)
]

pub returns-then-arguments-lt2-clause-call : goal.returns-then-arguments-lt2-clause-call
returns-then-arguments-lt2-clause-call g c =
    λ call names. absurd (too_short string_bytes c.args.arguments.now call c.if-arguments-lt2.true names)

pub returns-in-Ok-clause-call : goal.returns-in-Ok-clause-call
returns-in-Ok-clause-call g c = λ call names.
    inl (ends_in_json_as (map string_bytes c.args.arguments.now) c.in-Ok.call call c.in-Ok.ensures.call names
    g.S.Sink.taken g.S.Sink.failed _ _ _ c.call_in_json.ensures.ended)

pub returns-then-arguments-lt2-clause-bundle : goal.returns-then-arguments-lt2-clause-bundle
returns-then-arguments-lt2-clause-bundle g c = λ few. c.input_in_json.ensures.ended

pub returns-in-Err-clause-no_call : goal.returns-in-Err-clause-no_call
returns-in-Err-clause-no_call g c = λ many none. elim c.finish_arguments.ensures.status [
  | inl memory ↦ inl memory
  | inr ends ↦ elim c.in-Err.ensures.kinds [
    | inl memory ↦ inl (c.finish_arguments.ensures.memory memory)
    | inr among ↦ inr (_, among, ends)
  ]
]
