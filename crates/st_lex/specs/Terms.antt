-- The types and numbers of the code, handed on to definitions and proofs under one name.
pub use Rattle.st_events.specs.declared.events.Site.{Site}
pub use Rattle.st_lex.specs.declared.errors.Fault.{Fault}
pub use Rattle.st_lex.specs.declared.errors.Fault.TheVariants as fault
pub use Rattle.st_lex.specs.declared.errors.LexError.{LexError}
pub use Rattle.st_lex.specs.declared.errors.LexError.TheVariants as error
pub use Rattle.st_lex.specs.declared.kinds.Token.{Token}
pub use Rattle.st_lex.specs.declared.kinds.TokenKind.{TokenKind}
pub use Rattle.st_lex.specs.declared.kinds.TokenKind.TheVariants as kind
pub use Rattle.st_lex.specs.declared.kinds.TokenKind.TheVariants.{Word, Key, Number, Mark}
pub use Rattle.st_lex.specs.declared.pieces.Piece.{Piece}
pub use Rattle.st_lex.specs.declared.pieces.Piece.TheVariants as piece
pub use Rattle.st_lex.specs.declared.limits.TheConstants.{LARGEST_NUMBER, MOST_SOURCE_BYTES}
