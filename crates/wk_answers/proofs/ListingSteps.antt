-- One more line of a listing.
use Rattle.std.proofs.Common.{◌≡◌, Bool, true, false, ◌||◌, List, [], ◌∷◌, ◌++◌, ℕ, Result, Ok, Err, refl, sym, ap, ◌∙◌, append_assoc, append-nil}
use Rattle.std.specs.List.{list_any}
use Rattle.std.specs.Result.{is_err}
use Rattle.wk_bytes.specs.declared.fault.ReadFault.{ReadFault}
use Rattle.wk_bytes.specs.declared.raw.RawSection.{RawSection}
use Rattle.wk_bytes.specs.Frames.{Section}
use Rattle.wk_bytes.specs.Raw.{item_view}
use Rattle.wk_answers.specs.Listing.{is_fault, item_line, listing}

pub text_more : (old new whole : List ℕ) (item : Result Section ReadFault) (it items : List (Result Section ReadFault)) → it ≡ item ∷ items
    → new ≡ old ++ item_line item → old ++ listing it ≡ whole → new ++ listing items ≡ whole
unfolding listing
text_more old new whole item it items steps put e =
    ap (λ (t : List ℕ). t ++ listing items) put
    ∙ (append_assoc old (item_line item) (listing items)
    ∙ (ap (λ (rest : List (Result Section ReadFault)). old ++ listing rest) (sym steps) ∙ e))

pub text_done : (text whole : List ℕ) (it : List (Result Section ReadFault)) → it ≡ [] → text ++ listing it ≡ whole → text ≡ whole
unfolding listing
text_done text whole it none e = sym (append-nil text) ∙ ap (λ (rest : List (Result Section ReadFault)). text ++ listing rest) (sym none) ∙ e

either : (a b c : Bool) → ((a || b) || c) ≡ (a || (b || c))
either true b c = refl
either false b c = refl

fault_here : (item : Result RawSection ReadFault) (items : List (Result Section ReadFault))
    → (is_err item || list_any is_fault items) ≡ list_any is_fault (item_view item ∷ items)
fault_here (Ok s) items = refl
fault_here (Err e) items = refl

pub fault_more : (seen here whole : Bool) (item : Result RawSection ReadFault) (it items : List (Result Section ReadFault))
    → it ≡ item_view item ∷ items → here ≡ is_err item
    → (seen || list_any is_fault it) ≡ whole → ((seen || here) || list_any is_fault items) ≡ whole
fault_more seen here whole item it items steps is e =
    either seen here (list_any is_fault items)
    ∙ (ap (λ b. seen || (b || list_any is_fault items)) is
    ∙ (ap (λ b. seen || b) (fault_here item items)
    ∙ (ap (λ (rest : List (Result Section ReadFault)). seen || list_any is_fault rest) (sym steps) ∙ e)))
