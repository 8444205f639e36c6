-- Labels and open blocks.
use Rattle.std.proofs.Common.{◌≡◌, ℕ, zero, suc, List, [], ◌∷◌, Option, Some, None, length, refl, sym, ap, ◌∙◌, arith}
use Rattle.std.proofs.lemmas.Bool.{ne_eqb}
use Rattle.std.specs.Prelude.{slice_get, nat_eq}
use Rattle.wk_body.specs.declared.types.ValType.{ValType}
use Rattle.wk_body.specs.declared.types.BlockType.{BlockType}
use Rattle.wk_body.specs.declared.types.BlockType.TheVariants.{Empty}
use Rattle.wk_body.specs.declared.references.Ref.{Ref}
use Rattle.wk_typing.specs.declared.stacks.FrameKind.{FrameKind}
use Rattle.wk_typing.specs.declared.stacks.FrameKind.TheVariants as frame_kinds
use Rattle.wk_typing.specs.Answers.{Found}
use Rattle.wk_typing.specs.Effects.{same_types}
use Rattle.wk_typing.specs.Levels.{Level, Blocks, level_label, outer_labels, labels_of}
use Rattle.wk_typing.specs.Moves.{head_in, head_at}

abbrev pub label_found : (Ref → Found) → Option (FrameKind × BlockType) → Option (List ValType)
label_found A None = None
label_found A (Some p) = Some (level_label A (p.0) (p.1))

label_in : (A : Ref → Found) (ls : List Level) (n : ℕ) → slice_get (outer_labels A ls) n ≡ label_found A (head_in ls n)
label_in A [] n = refl
label_in A (l ∷ ls) zero = refl
label_in A (l ∷ ls) (suc n) = label_in A ls n

pub label_at : (A : Ref → Found) (b : Blocks) (n : ℕ) (r : Option (FrameKind × BlockType)) → r ≡ head_at b n → slice_get (labels_of A b) n ≡ label_found A r
label_at A b n r e = label_in A (b.inner ∷ b.outer) n ∙ ap (label_found A) (sym e)

-- a block of no types takes none, whatever opened it
none_at : (A : Ref → Found) (o : FrameKind) → level_label A o Empty ≡ []
none_at A frame_kinds.Body = refl
none_at A frame_kinds.Block = refl
none_at A frame_kinds.Loop = refl
none_at A frame_kinds.If = refl
none_at A frame_kinds.Else = refl

pub label_none : (A : Ref → Found) (b : Blocks) (n : ℕ) (o : FrameKind) → Some (o, Empty) ≡ head_at b n → slice_get (labels_of A b) n ≡ Some []
label_none A b n o e = label_at A b n (Some (o, Empty)) e ∙ ap Some (none_at A o)

-- none are the types of a list exactly where it is empty
pub no_types : (ts : List ValType) → nat_eq (length ts) 0 ≡ same_types [] ts
no_types [] = refl
no_types (t ∷ ts) = ne_eqb (suc (length ts)) 0 (λ e. omega (arith, e))
