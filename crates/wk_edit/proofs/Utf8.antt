-- Names are UTF-8.
use Rattle.std.proofs.Common.{◌≡◌, ◌<◌, ◌==◌, not, ℕ, true, List, length, Some, None, Result, Ok}
use Rattle.std.proofs.Common.{refl, arith}
use Rattle.std.specs.List.{list_all}
use Rattle.std.specs.Str.{IsUtf8}
use Rattle.std.proofs.lemmas.Bool.{and_parts}
use Rattle.std.proofs.lemmas.List.Sums.{AllPass-from_list_all}
use Rattle.std.proofs.lemmas.Str.{is_utf8-from_IsUtf8, IsUtf8-from_ascii}
use Rattle.std.proofs.lemmas.Str.Ascii.{IsAscii-from_all}
use Rattle.hex.specs.declared.error.FromHexError.{FromHexError}
use Rattle.wk_bytes.specs.PieceLaws.{not_utf8}
use Rattle.wk_edit.specs.Words.{utf8_of, is_plain, is_graphic}

pub utf8_is : (r : Result (List ℕ) FromHexError) (bytes : List ℕ) → r ≡ Ok bytes → IsUtf8 bytes → utf8_of r ≡ Some bytes
utf8_is r bytes e utf8 = rw (e, is_utf8-from_IsUtf8 bytes utf8) refl

pub utf8_not : (r : Result (List ℕ) FromHexError) (bytes : List ℕ) → r ≡ Ok bytes → ¬ (IsUtf8 bytes) → utf8_of r ≡ None
utf8_not r bytes e bad = rw (e, not_utf8 bytes bad) refl

graphic_ascii : (x : ℕ) → is_graphic x ≡ true → x < 128
graphic_ascii x e = grind (arith, e)

pub plain_utf8 : (xs : List ℕ) → is_plain xs ≡ true → IsUtf8 xs
plain_utf8 xs e =
    let graphic = AllPass-from_list_all is_graphic xs (and_parts (not (length xs == 0)) (list_all is_graphic xs) e).1 in
    IsUtf8-from_ascii xs (IsAscii-from_all xs (λ k d within. graphic_ascii _ (graphic k d within)))
