use Rattle.std.proofs.Common.{◌≡◌, ℕ, ◌++◌, ◌∷◌, List, ap, ◌∙◌, append_assoc}
use Rattle.std.specs.Prelude.{codes}
use Rattle.std.specs.List.{flat_map}
use Rattle.wk_body.specs.declared.references.Ref.{Ref}
use Rattle.wk_body.specs.declared.references.Ref.TheVariants.{Ty}
use Rattle.wk_body.specs.References.{refs_of}
use Rattle.wk_list.specs.Text.{indexed}
use Rattle.wk_list.specs.Uses.{in_order, ref_text}
use Rattle.wk_list.specs.UsesLaws.{in_order_is}
use Rattle.wk_list.proofs.uses.put_uses.Goals as goal

four_pieces : (o a b c d x y z w : List ℕ) → a ≡ o ++ x → b ≡ a ++ y → c ≡ b ++ z → d ≡ c ++ w → d ≡ o ++ (x ++ (y ++ (z ++ w)))
four_pieces o a b c d x y z w p q r s =
    let regroup : ((((o ++ x) ++ y) ++ z) ++ w) ≡ o ++ (x ++ (y ++ (z ++ w))) = simp append_assoc in
    s ∙ ap (λ (t : List ℕ). t ++ w) (r ∙ ap (λ (t : List ℕ). t ++ z) (q ∙ ap (λ (t : List ℕ). t ++ y) p)) ∙ regroup

pub returns : goal.returns
returns c =
    let all : List Ref = Ty c.args.func.now.ty ∷ refs_of c.args.func.now.body.instrs in
    let name : List ℕ = indexed (codes "func") c.args.index in
    let order : c.in_ok-references.references.keys ≡ in_order all =
    in_order_is c.in_ok-references.references.keys all c.in_ok-references.ensures.rising c.in_ok-references.ensures.exact in
    four_pieces c.args.text.now.items c.put_indexed.new.text.items c.extend_from_slice.new.self.items c.put_refs.new.text.items
    c.extend_from_slice-2.new.self.items
    name (codes ":") (flat_map ref_text (in_order all)) (codes "\n")
    c.in_ok-put_indexed.ensures c.in_ok-extend_from_slice.ensures.items
    (c.in_ok-put_refs.ensures ∙ ap (λ (ks : List Ref). c.extend_from_slice.new.self.items ++ flat_map ref_text ks) order)
    c.in_ok-extend_from_slice-2.ensures.items
