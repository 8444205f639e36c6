-- ---- what code sees of its module

-- The index spaces of a module (2.5.1), imports first, and what references find in them.
pub mod Spaces
-- ---- the declarative rules

-- Constant expressions (3.3.7.2) by these rules.
pub mod ConstantRules
-- ---- verdicts of modules

-- What is wrong with each item of a module's sections (3.2, 3.4).
pub mod Items
-- The first of many flaws, by section and item.
pub mod Flaws
-- The verdict of a module (3.4.10): valid, or its first fault.
pub mod Verdict
-- Valid modules (3.4.10), with bodies and constant expressions by the declarative rules.
pub mod Valid
-- The lines that tell a verdict, or that bytes are no module.
pub mod VerdictLines
-- ---- what keeps a verdict

-- What references find in a module that gets one more item or one more import.
pub mod SpacesLaws
-- What is known of a valid module and its bodies, and of a table or memory that is one too many.
pub mod Growth
-- ---- what loops keep, for those who read proofs

-- What is counted of a module's imports, once for all references.
pub mod Whole
