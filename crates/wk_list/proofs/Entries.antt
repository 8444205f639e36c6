-- One function more of the code listing.
use Rattle.std.proofs.Common.{◌≡◌, ℕ, ◌+◌, ◌<◌, ◌≤◌, List, ◌∷◌, ◌++◌, length, drop, get_or, slice_index_or, ap, ◌∙◌, sym, append_assoc, arith, length-append}
use Rattle.std.specs.List.{flat_map}
use Rattle.std.proofs.lemmas.List.{drop_more}
use Rattle.wk_bytes.specs.Frames.{limit}
use Rattle.wk_bytes.specs.Short.{short}
use Rattle.wk_body.specs.Tree.{Instrs}
use Rattle.wk_body.specs.Written.{written_body}
use Rattle.wk_module.specs.declared.types.Func.{Func}
use Rattle.wk_module.specs.Items.{written_code}
use Rattle.wk_list.specs.CodeText.{expr_text, entry_text, entries_text}

-- the head of a function was gathered, and its instructions come next
pub head_put : (t head between : List ℕ) (start at : ℕ) (x y : Instrs) → between ≡ t ++ head → start ≡ at → x ≡ y
    → between ++ expr_text start x ≡ t ++ (head ++ expr_text at y)
head_put t head between start at x y e f h =
    ap (λ (r : List ℕ). r ++ expr_text start x) e ∙ ap (λ (k : ℕ). (t ++ head) ++ expr_text k x) f ∙ ap (λ (z : Instrs). (t ++ head) ++ expr_text at z) h
    ∙ append_assoc t head (expr_text at y)

-- ---- functions one after the other

abbrev pub codes_of : List Func → List ℕ
codes_of fs = flat_map (λ (f : Func). written_code f.body) fs

item_is : (funcs items : List Func) (i : ℕ) (f : Func) → items ≡ funcs → f ≡ get_or items i f → f ≡ get_or funcs i f
item_is funcs items i f same is = is ∙ ap (λ (fs : List Func). get_or fs i f) same

-- those from one on
from_one : (funcs items : List Func) (i : ℕ) (f : Func) → items ≡ funcs → f ≡ get_or items i f → i < length items → drop i funcs ≡ f ∷ drop (i + 1) funcs
from_one funcs items i f same is within =
    let lt : i < length funcs = omega (arith, ap length same, within) in
    drop_more funcs i f lt ∙ ap (λ (e : Func). e ∷ drop (i + 1) funcs) (sym (item_is funcs items i f same is))

length_from : (funcs items : List Func) (i : ℕ) (f : Func) → items ≡ funcs → f ≡ get_or items i f → i < length items
    → length (codes_of (drop i funcs)) ≡ length (written_code f.body) + length (codes_of (drop (i + 1) funcs))
length_from funcs items i f same is within =
    ap (λ (fs : List Func). length (codes_of fs)) (from_one funcs items i f same is within)
    ∙ length-append (written_code f.body) (codes_of (drop (i + 1) funcs))

pub size_is : (funcs items : List Func) (i size : ℕ) (f : Func) → items ≡ funcs → f ≡ get_or items i f
    → ((other : Func) → size ≡ length (written_body (slice_index_or funcs i other).body)) → size ≡ length (written_body f.body)
size_is funcs items i size f same is len = len f ∙ ap (λ (e : Func). length (written_body e.body)) (sym (item_is funcs items i f same is))

pub entry_fits : (funcs items : List Func) (i at whole : ℕ) (f : Func) → items ≡ funcs → f ≡ get_or items i f → i < length items
    → at + length (codes_of (drop i funcs)) ≡ whole → whole ≤ limit → at + length (written_code f.body) ≤ limit
entry_fits funcs items i at whole f same is within place fits = omega (arith, length_from funcs items i f same is within, place, fits)

pub code_is : (size n : ℕ) (f : Func) → size ≡ length (written_body f.body) → n ≡ length (short size) → n + size ≡ length (written_code f.body)
code_is size n f e count =
    omega (arith, e, count, ap (λ (k : ℕ). length (short k)) e, length-append (short (length (written_body f.body))) (written_body f.body))

pub next_place : (funcs items : List Func) (i at whole size n : ℕ) (f : Func) → items ≡ funcs → f ≡ get_or items i f → i < length items
    → ((other : Func) → size ≡ length (written_body (slice_index_or funcs i other).body)) → n ≡ length (short size)
    → at + length (codes_of (drop i funcs)) ≡ whole → (at + (n + size)) + length (codes_of (drop (i + 1) funcs)) ≡ whole
next_place funcs items i at whole size n f same is within len count place =
    omega (arith, length_from funcs items i f same is within, place, code_is size n f (size_is funcs items i size f same is len) count)

-- the text of one comes next, and behind it that of others
pub entry_next : (funcs items : List Func) (i imported before at size n : ℕ) (f : Func) (t : List ℕ) → before ≡ imported → items ≡ funcs
    → f ≡ get_or items i f → i < length items
    → ((other : Func) → size ≡ length (written_body (slice_index_or funcs i other).body)) → n ≡ length (short size)
    → t ++ entries_text (imported + i) at (drop i funcs)
    ≡ (t ++ entry_text (before + i) at f) ++ entries_text (imported + (i + 1)) (at + (n + size)) (drop (i + 1) funcs)
entry_next funcs items i imported before at size n f t first same is within len count =
    let index : imported + (i + 1) ≡ (imported + i) + 1 = omega arith in
    rw (first, index, code_is size n f (size_is funcs items i size f same is len) count)
    (ap (λ (fs : List Func). t ++ entries_text (imported + i) at fs) (from_one funcs items i f same is within)
    ∙ sym (append_assoc t (entry_text (imported + i) at f) _))
