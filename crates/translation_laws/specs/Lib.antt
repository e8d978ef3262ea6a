pub mod Alike
pub mod RewrittenText
pub mod RoundTrip
pub mod Statements
