use Rattle.std.proofs.Common.{Some, Option, refl, sym, ap, subst, ◌∙◌, inl, inr}
use Rattle.wk_body.specs.declared.immediate_kind.ImmediateKind.{ImmediateKind}
use Rattle.wk_body.specs.Minimal.{IsWide}
use Rattle.wk_body.proofs.minimal_len.wide_len.Goals as goal

pub returns-in-Index : goal.returns-in-Index
returns-in-Index c = λ some x y p q is.
    let of_kind = sym c.imm_kind.ensures ∙ c.in-Some.is ∙ ap (λ (l : ImmediateKind). Some l) c.in-Index.is in
    subst (λ (o : Option ImmediateKind). IsWide o 3 x y c.args.z) (sym of_kind) (refl, c.is_wide_index.ensures c.if-is_wide_index.true x y p q is)

pub returns-in-Memarg : goal.returns-in-Memarg
returns-in-Memarg c = λ some x y p q is.
    let of_kind = sym c.imm_kind.ensures ∙ c.in-Some.is ∙ ap (λ (l : ImmediateKind). Some l) c.in-Memarg.is in
    let second = c.is_wide_second.ensures c.if-is_wide_second.true x y p q is in
    subst (λ (o : Option ImmediateKind). IsWide o 4 x y c.args.z) (sym of_kind) (refl, second.0, second.1)

pub returns-in-Signed32 : goal.returns-in-Signed32
returns-in-Signed32 c = λ some x y p q is.
    let number = c.is_wide_number.ensures c.if-is_wide_number.true x y p q is in
    elim c.in-Signed32.is [
      | inl e ↦ subst (λ (o : Option ImmediateKind). IsWide o 3 x y c.args.z)
          (sym (sym c.imm_kind.ensures ∙ c.in-Some.is ∙ ap (λ (l : ImmediateKind). Some l) e)) (refl, number)
      | inr e ↦ subst (λ (o : Option ImmediateKind). IsWide o 3 x y c.args.z)
          (sym (sym c.imm_kind.ensures ∙ c.in-Some.is ∙ ap (λ (l : ImmediateKind). Some l) e)) (refl, number)
    ]
