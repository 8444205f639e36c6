-- The listings of a module.
use Rattle.std.specs.Prelude.{ℕ, Bool, true, false, List}
use Rattle.wk_module.specs.declared.types.Parts.{Parts}
use Rattle.wk_list.specs.declared.listing.Part.{Part}
use Rattle.wk_list.specs.declared.listing.Part.TheVariants.{Headers, Details, Code, Uses}
use Rattle.wk_list.specs.Headers.{headers_text}
use Rattle.wk_list.specs.Details.{details_text}
use Rattle.wk_list.specs.CodeText.{code_text}
use Rattle.wk_list.specs.Uses.{uses_text}

-- the text of a part, by the module alone
abbrev pub listing : Parts → Part → List ℕ
listing m Headers = headers_text m
listing m Details = details_text m
listing m Code = code_text m
listing m Uses = uses_text m

-- whether it tells what stands in bodies
abbrev pub lists_bodies : Part → Bool
lists_bodies Headers = false
lists_bodies Details = false
lists_bodies Code = true
lists_bodies Uses = true
