pub mod BlockChecks
