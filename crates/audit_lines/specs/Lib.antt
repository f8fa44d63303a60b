-- What the contracts of the audit's text cite.
pub mod AuditLines
pub mod Files
