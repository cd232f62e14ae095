-- The definitions that contracts cite, and their laws.
pub mod Text
pub mod ScanLaws
pub mod WordLaws
pub mod PlaceLaws
pub mod Cursors
pub mod CursorLaws
pub mod FigureLaws
pub mod TextLaws
pub mod PlainLaws
