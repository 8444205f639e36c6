-- Words and the commands that they spell, worked out.
use Rattle.std.proofs.Common.{◌≡◌, ◌∙◌, true, false, None, Some, [], ◌∷◌, length, refl, sym, ap, inl, inr, arith, codes}
use Rattle.clap.specs.declared.error.kind.ErrorKind.TheVariants as kind
use Rattle.clap.proofs.OnLiterals.{clap_on_literals}
use Rattle.wk_body.specs.declared.types.Profile.TheVariants.{Core, Extended}
use Rattle.wk_command_line.specs.declared.command.EachCommand.{EachCommand}
use Rattle.wk_command_line.specs.declared.command.EditCommand.{EditCommand}
use Rattle.wk_command_line.specs.declared.command.ValidateCommand.{ValidateCommand}
use Rattle.wk_command_line.specs.CommandLine.{files_of, flag, operand, SpellsEach, SpellsEdit, SpellsNone, SpellsValidate}
use Rattle.wk_command_line.proofs.Spelling.{fault_spells_none}

-- `edit --keep-valid -- -f edits out`
edit_line : (c : EditCommand) → c.file.now ≡ codes "-f" → c.script.now ≡ codes "edits" → c.out.now ≡ codes "out" → c.keep_valid ≡ true → c.profile ≡ Core
    → SpellsEdit (codes "edit" ∷ codes "--keep-valid" ∷ codes "--" ∷ codes "-f" ∷ codes "edits" ∷ codes "out" ∷ []) c
edit_line c file script out keep_valid profile = record {
  line = record { pieces = flag (codes "keep-valid") ∷ []; rest = Some (codes "-f" ∷ codes "edits" ∷ codes "out" ∷ []) };
  spelled = (refl, record { pieces = (inl refl, tt); once = ((λ i. i), tt); operands = refl });
  operands = rw (file, script, out) refl;
  keep_valid = keep_valid;
  profile = profile;
  new = λ e. let bad : 3 ≡ 2 = ap length (sym out ∙ (e ∙ file)) in absurd (omega arith);
  other = λ e. let bad : 3 ≡ 5 = ap length (sym out ∙ (e ∙ script)) in absurd (omega arith);
}

-- `validate in --extended`
validate_line : (c : ValidateCommand) → c.file.now ≡ codes "in" → c.profile ≡ Extended → c.explain ≡ false → SpellsValidate (codes "validate" ∷ codes "in" ∷ codes "--extended" ∷ []) c
validate_line c file profile explain = record {
  line = record { pieces = operand (codes "in") ∷ flag (codes "extended") ∷ []; rest = None };
  spelled = (refl, record { pieces = (refl, (inr (inl refl), tt)); once = ((λ i. i), tt); operands = omega arith });
  alone = refl;
  explain = explain;
  operands = rw file refl;
  profile = profile;
}

-- `validate --explain a --each -- -b`
each_line : (c : EachCommand) → files_of c ≡ codes "a" ∷ codes "-b" ∷ [] → c.profile ≡ Core → c.explain ≡ true
    → SpellsEach (codes "validate" ∷ codes "--explain" ∷ codes "a" ∷ codes "--each" ∷ codes "--" ∷ codes "-b" ∷ []) c
each_line c files profile explain = record {
  line = record { pieces = flag (codes "explain") ∷ operand (codes "a") ∷ flag (codes "each") ∷ []; rest = Some (codes "-b" ∷ []) };
  spelled = (refl, record { pieces = (inr (inr (inl refl)), (refl, (inl refl, tt))); once = ((λ i. elim i [ inl e ↦ other e | inr j ↦ absurd j ]), ((λ i. i), tt)); operands = omega arith });
  each = refl;
  explain = explain;
  operands = sym files;
  profile = profile;
}
  where
    other : codes "explain" ≡ codes "each" → ⊥
    other e = let bad : 7 ≡ 4 = ap length e in absurd (omega (arith, bad))

-- `validate --each`, `validate in -h` and `strip --keep a --keep=b in out` spell nothing.
no_file_none : SpellsNone (codes "validate" ∷ codes "--each" ∷ [])
unfolding clap_on_literals
no_file_none = fault_spells_none (codes "validate" ∷ codes "--each" ∷ []) (λ e. let bad : kind.MissingRequiredArgument ∷ [] ≡ [] = e in cc)

help_none : SpellsNone (codes "validate" ∷ codes "in" ∷ codes "-h" ∷ [])
unfolding clap_on_literals
help_none = fault_spells_none (codes "validate" ∷ codes "in" ∷ codes "-h" ∷ []) (λ e. let bad : kind.DisplayHelp ∷ [] ≡ [] = e in cc)

twice_none : SpellsNone (codes "strip" ∷ codes "--keep" ∷ codes "a" ∷ codes "--keep=b" ∷ codes "in" ∷ codes "out" ∷ [])
unfolding clap_on_literals
twice_none = fault_spells_none (codes "strip" ∷ codes "--keep" ∷ codes "a" ∷ codes "--keep=b" ∷ codes "in" ∷ codes "out" ∷ [])
    (λ e. let bad : kind.ArgumentConflict ∷ [] ≡ [] = e in cc)
