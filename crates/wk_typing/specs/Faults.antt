-- What is wrong with a body, and with an item at its place.
use Rattle.std.specs.Prelude.{ℕ, Option, Some, None, Result, Ok}
use Rattle.wk_bytes.specs.declared.fault.ReadFault.{ReadFault}
use Rattle.wk_bytes.specs.Leb.{◌>>=◌}
use Rattle.wk_bytes.specs.Span.{Span}
use Rattle.wk_body.specs.declared.references.Ref.{Ref}
use Rattle.wk_body.specs.declared.types.Profile.{Profile}
use Rattle.wk_body.specs.Reading.{all_body_at}
use Rattle.wk_typing.specs.Answers.{Found}
use Rattle.wk_typing.specs.Typing.{body_verdict}
use Rattle.wk_typing.specs.declared.fault.BodyVerdict.{BodyVerdict}
use Rattle.wk_typing.specs.declared.fault.BodyVerdict.TheVariants as bodies
use Rattle.wk_typing.specs.declared.fault.Fault.{Fault}
use Rattle.wk_typing.specs.declared.fault.Flaw.{Flaw}

abbrev pub body_flaw : BodyVerdict → Option Flaw
body_flaw bodies.Valid = None
body_flaw (bodies.Invalid kind token) = Some (record { kind = kind; token = Some token })

-- a flaw of an item, at its place
abbrev pub fault_at : ℕ → ℕ → Flaw → Fault
fault_at section item w = record { kind = w.kind; place = record { section = section; item = item; token = w.token } }

-- the verdict of the body that all of the bytes encode, or the fault of reading it
abbrev pub encoded_verdict : (Ref → Found) → ℕ → Profile → Span → Result BodyVerdict ReadFault
encoded_verdict A own profile code = all_body_at profile code.end code.rest >>= λ body. Ok (body_verdict A own body)
