-- Printed documents as the productions of XML cut them.
pub mod Cut
