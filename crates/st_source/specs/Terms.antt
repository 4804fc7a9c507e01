-- The errors of the stages, handed on to definitions and proofs under one name.
pub use Rattle.st_lex.specs.declared.errors.LexError.{LexError}
pub use Rattle.st_lex.specs.declared.errors.LexError.TheVariants as lex
pub use Rattle.st_parse.specs.declared.errors.ParseError.{ParseError}
pub use Rattle.st_parse.specs.declared.errors.ParseError.TheVariants as parse
pub use Rattle.st_types.specs.declared.errors.TypeError.{TypeError}
pub use Rattle.st_types.specs.declared.errors.TypeError.TheVariants as types
pub use Rattle.st_source.specs.declared.errors.SourceError.{SourceError}
pub use Rattle.st_source.specs.declared.errors.SourceError.TheVariants as error
